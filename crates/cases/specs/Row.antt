use Rattle.std.specs.Prelude.{ℕ, Bool, true, false, ◌&&◌, List, [], ◌∷◌, ◌==◌}

-- one example: the numbers that a definition computes, and those that the rules give
pub record Row : Type 0 where
  pub computed : List ℕ
  pub wanted : List ℕ

-- whether two lists hold the same numbers
abbrev pub same : List ℕ → List ℕ → Bool
same [] [] = true
same [] (y ∷ ys) = false
same (x ∷ xs) [] = false
same (x ∷ xs) (y ∷ ys) = x == y && same xs ys

-- whether every row computes what is wanted
abbrev pub agree : List Row → Bool
agree [] = true
agree (r ∷ rows) = same r.computed r.wanted && agree rows
