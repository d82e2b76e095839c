-- tables that are made of the front of a slice
use Rattle.std.proofs.Common.{rules, ℕ, ◌<◌, ◌≤◌, Ok, Err, Result, List, length, take, length-take, arith}
use Rattle.std.specs.Result.{IsOk, MatchResult}

-- what fits is taken
pub fits : {T E : Type 0} (r : Result T E) (P : T → Type 0) (n room : ℕ) → n ≤ room → MatchResult r P (λ _. room < n) → IsOk r
fits (Ok v) P n room small h = search rules
fits (Err e) P n room small h = absurd (omega arith)

-- a front is no longer than it may be
pub front_fits : {X : Type 0} (room : ℕ) (xs : List X) → length (take room xs) ≤ room
front_fits room xs = rw (length-take room xs) (omega arith)
