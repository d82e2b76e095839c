use Rattle.std.specs.Prelude.{ℕ, ◌-◌, ◌^◌}

-- the most cache levels
abbrev pub most_levels : ℕ
most_levels = 2

-- the highest line that a trace may call bad
abbrev pub highest_bad_line : ℕ
highest_bad_line = 4095

-- the highest cause of a bad line
abbrev pub highest_cause : ℕ
highest_cause = 255

-- the largest size that a request may name, in bytes
abbrev pub largest_size : ℕ
largest_size = 255

-- the highest address that a request may name
abbrev pub highest_address : ℕ
highest_address = 2 ^ 32 - 1

-- the highest number, and so the highest value of a store
abbrev pub highest_number : ℕ
highest_number = 2 ^ 64 - 1

-- the most steps of a pass
abbrev pub most_steps : ℕ
most_steps = 1000

-- the longest note, in bytes
abbrev pub longest_note : ℕ
longest_note = 60

-- the first byte that a note may hold
abbrev pub first_printable : ℕ
first_printable = 32

-- the last byte that a note may hold
abbrev pub last_printable : ℕ
last_printable = 126

-- how many bytes a record within its limits takes at most
abbrev pub longest_record : ℕ
longest_record = 205
