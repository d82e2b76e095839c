use Rattle.std.specs.Prelude.{ℕ, ◌+◌, ◌*◌}

-- the pace of one level on a memory with this pace
abbrev pub one_level_pace : ℕ → ℕ
one_level_pace p = 2 * p + 3

-- the pace of two: each level has twice the pace below it, and 3
abbrev pub two_levels_pace : ℕ → ℕ
two_levels_pace p = 4 * p + 9
