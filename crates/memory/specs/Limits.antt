use Rattle.std.specs.Prelude.{ℕ}

-- the most lines that a memory has
abbrev pub most_lines : ℕ
most_lines = 4096

-- the most bad lines that a memory is given
abbrev pub most_bad_lines : ℕ
most_bad_lines = 32

-- the longest latency, in steps
abbrev pub longest_latency : ℕ
longest_latency = 64

-- the longest script, in bytes
abbrev pub longest_script : ℕ
longest_script = 64
