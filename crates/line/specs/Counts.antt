use Rattle.std.specs.Prelude.{ℕ, Bool, ◌||◌, ◌==◌}

-- whether a number is 1, 2, 4 or 8
abbrev pub is_count : ℕ → Bool
is_count n = n == 1 || (n == 2 || (n == 4 || n == 8))
