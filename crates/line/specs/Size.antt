use Rattle.std.specs.Prelude.{ℕ}

-- how many bytes a line has
abbrev pub line_size : ℕ
line_size = 16
