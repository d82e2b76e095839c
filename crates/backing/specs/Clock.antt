use Rattle.std.specs.Prelude.{◌≡◌, ℕ, zero, suc, ◌+◌, ◌-◌, ◌*◌, if◌then◌else◌, Some, None, Option, max, min, ◌==◌}
use Rattle.memory.specs.Limits.{longest_latency}
use Rattle.backing.specs.declared.clock.Clock.{Clock}

-- the latency of a clock, in steps
abbrev pub latency_of : Clock → ℕ
latency_of c = c.latency

-- the steps that it has counted towards its latency
abbrev pub counter_of : Clock → ℕ
counter_of c = c.counter

-- the latency that counts where another is given: from 1 to the longest, the nearer end
abbrev pub counted_latency : ℕ → ℕ
counted_latency latency = max 1 (min latency longest_latency)

-- the index of the open request that a step answers, oldest first, while so many are open: the oldest, where the counter reaches the latency
abbrev pub clock_answers : Clock → ℕ → Option ℕ
clock_answers c zero = None
clock_answers c (suc n) = if c.counter + 1 == c.latency then Some 0 else None

-- the counter after a step: a step with a request open adds 1, and at the latency it returns to 0
abbrev pub counter_after : Clock → ℕ → ℕ
counter_after c zero = c.counter
counter_after c (suc n) = if c.counter + 1 == c.latency then 0 else c.counter + 1

-- a step of the clock while so many requests are open
abbrev pub ClockSteps : Clock → ℕ → Clock → Type 0
ClockSteps c n d = (d.latency ≡ c.latency) × (d.counter ≡ counter_after c n)

-- the steps that are owed while so many requests are open: a latency for each, less those that were counted
abbrev pub clock_owed : Clock → ℕ → ℕ
clock_owed c n = c.latency * n - c.counter

-- the most that a request adds to them
abbrev pub clock_pace : Clock → ℕ
clock_pace c = c.latency
