use Rattle.std.specs.Prelude.{◌≡◌, ◌≢◌, ℕ, ◌+◌, ◌≤◌, ◌==◌, List, length, take, slice_get, count_by, Option, None, Some}

-- the number of the line in which the byte at an index of a text stands, counted from 1: one more than the ends of lines before it
abbrev pub line_at : ℕ → List ℕ → ℕ
line_at at text = count_by (λ byte. byte == 10) (take at text) + 1

-- two texts are alike up to an index that both have, and not at it, unless both end there
abbrev pub AlikeUpTo : List ℕ → List ℕ → ℕ → Type 0
AlikeUpTo text wanted at = (at ≤ length text) × (at ≤ length wanted) × (take at text ≡ take at wanted) × (slice_get text at ≡ slice_get wanted at → (length text ≡ at) × (length wanted ≡ at))

-- the first byte that one of two texts has and the other has not at the same index stands in this line
pub record DiffersAt (line : ℕ) (text wanted : List ℕ) : Type 0 where
  pub at : ℕ
  pub front : take at text ≡ take at wanted
  pub differs : slice_get text at ≢ slice_get wanted at
  pub number : line ≡ line_at at text

-- what a comparison of two texts answers: nothing where they are the same, and else the line in which they differ
abbrev pub Compared : List ℕ → List ℕ → Option ℕ → Type 0
Compared text wanted None = text ≡ wanted
Compared text wanted (Some line) = DiffersAt line text wanted
