use Rattle.std.specs.Prelude.{ℕ, ◌-◌, ◌^◌, min}

-- the room that a call needs for its line, in bytes
abbrev pub line_room : ℕ
line_room = 128

-- the room that a player needs for its memory, in bytes
abbrev pub image_room : ℕ
image_room = 65536

-- a count goes up to the largest number of 64 bits, and stays there
abbrev pub limited : ℕ → ℕ
limited n = min n (2 ^ 64 - 1)
