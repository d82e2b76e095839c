use Rattle.std.specs.Prelude.{ℕ}
use Rattle.trace.specs.declared.refusal.Refusal.{Refusal}
use Rattle.trace.specs.declared.refusal.Refusal.TheVariants.{Truncated, Number, NoKind, Limit, Misplaced, Room}

-- the number of each refusal
abbrev pub refusal_code : Refusal → ℕ
refusal_code Truncated = 1
refusal_code Number = 2
refusal_code NoKind = 3
refusal_code Limit = 4
refusal_code Misplaced = 5
refusal_code Room = 12
