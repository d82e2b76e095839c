use Rattle.std.specs.Prelude.{ℕ}

-- the most sets of a level, and the most ways of a set
abbrev pub most_sets : ℕ
most_sets = 8

abbrev pub most_ways : ℕ
most_ways = 8

-- the most registers
abbrev pub most_registers : ℕ
most_registers = 8

-- the most targets of a register
abbrev pub most_targets : ℕ
most_targets = 4

-- the most lines in the queue
abbrev pub most_queued : ℕ
most_queued = 4

-- the most requests that are open
abbrev pub most_open : ℕ
most_open = 16
