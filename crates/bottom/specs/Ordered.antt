use Rattle.std.specs.Prelude.{◌≡◌, ℕ, List, length, Option, Result}
use Rattle.backing.specs.Backing.{image_of, open_requests, Begins, Reads, Writes, AnswersAt}
use Rattle.backing.specs.Clock.{latency_of, counter_of, counted_latency, clock_answers, clock_owed, clock_pace, ClockSteps}
use Rattle.backing.specs.Facts.{facts_on}
use Rattle.backing.specs.declared.image.Image.{Image}
use Rattle.bottom.specs.declared.ordered.Ordered.{Ordered}
use Rattle.memory.specs.Meaning.{Facts}
use Rattle.memory.specs.declared.bad_line.BadLine.{BadLine}
use Rattle.memory.specs.declared.refusal.Refusal.{Refusal}
use Rattle.memory.specs.declared.replies.Answer.{Answer}

-- the most requests that are open
abbrev pub ordered_limit : ℕ
ordered_limit = 4

-- the image that it stands on
abbrev pub ordered_image : Ordered → Image
ordered_image s = image_of s.backing

-- how many requests are open
abbrev pub ordered_count : Ordered → ℕ
ordered_count s = length (open_requests s.backing)

-- what there is to know of it
abbrev pub ordered_facts : Ordered → Facts
ordered_facts s = facts_on s.backing (clock_owed s.clock (ordered_count s)) (clock_pace s.clock)

-- a new memory: no request is open, and the clock is at 0
abbrev pub OrderedBegins : ℕ → List BadLine → ℕ → Ordered → Type 0
OrderedBegins level bad_lines latency s = Begins level bad_lines s.backing × (counter_of s.clock ≡ 0) × (latency_of s.clock ≡ counted_latency latency)

-- a read: the memory is busy exactly where as many requests are open as can be; the clock is left alone
abbrev pub OrderedReads : Ordered → ℕ → Result ℕ Refusal → Ordered → Type 0
OrderedReads s line r t = Reads ordered_limit s.backing line r t.backing × (t.clock ≡ s.clock)

-- a write: it is busy at the same times, and the clock is left alone
abbrev pub OrderedWrites : Ordered → ℕ → ℕ → List ℕ → Result ℕ Refusal → Ordered → Type 0
OrderedWrites s line mask new r t = Writes ordered_limit s.backing line mask new r t.backing × (t.clock ≡ s.clock)

-- a step answers the request that the clock says, and the clock goes on
abbrev pub OrderedSteps : Ordered → List ℕ → Option Answer → Ordered → List ℕ → Type 0
OrderedSteps s before r t after =
    AnswersAt (clock_answers s.clock (ordered_count s)) s.backing before r t.backing after × ClockSteps s.clock (ordered_count s) t.clock
