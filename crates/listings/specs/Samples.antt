use Rattle.std.specs.Prelude.{ℕ, min, ◌+◌, ◌-◌, ◌^◌, List, [], Option, None, Some}
use Rattle.listings.specs.Comparing.{Compared}
use Rattle.listings.specs.declared.samples.Tally.{Tally}
use Rattle.playing.specs.Played.{Played}

-- one more, up to the largest number of 64 bits
abbrev pub one_more : ℕ → ℕ
one_more n = min (n + 1) (2 ^ 64 - 1)

-- a sample that differs nowhere is counted as one that agrees, and any other as one that differs
abbrev pub counted : Option ℕ → Tally → Tally
counted None tally = record { agree = one_more tally.agree; differ = tally.differ }
counted (Some line) tally = record { agree = tally.agree; differ = one_more tally.differ }

-- the whole listing of the trace that a reader gives was compared with another one
pub record Tried (given : Option (List ℕ)) (wanted : List ℕ) (difference : Option ℕ) : Type 0 where
  pub listing : List ℕ
  pub played : Played given (Some []) (Some listing)
  pub compared : Compared listing wanted difference
