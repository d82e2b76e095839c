use Rattle.std.specs.Prelude.{ℕ, List, Ok, Err, Result}
use Rattle.std.specs.Borrow.{Bor}
use Rattle.trace.specs.declared.refusal.Refusal.{Refusal}

-- what taking a value off the front of some bytes comes to: the value and the bytes after it, or a refusal
pub data Parsed (X : Type 0) : Type 0 where
  Took : X → List ℕ → Parsed X
  Refuses : Refusal → Parsed X

-- a value and then what follows from it; a refusal ends it
abbrev pub and_then : {X Y : Type 0} → Parsed X → (X → List ℕ → Parsed Y) → Parsed Y
and_then (Took x rest) f = f x rest
and_then (Refuses r) f = Refuses r

-- what a function answers that takes a value off the front of a slice, with the value seen as another
abbrev pub parsed_as : {X Y : Type 0} → (X → Y) → Result (X × Bor (List ℕ)) Refusal → Parsed Y
parsed_as view (Ok p) = Took (view p.0) p.1.now
parsed_as view (Err r) = Refuses r

-- the same with the value as it is
abbrev pub parsed : {X : Type 0} → Result (X × Bor (List ℕ)) Refusal → Parsed X
parsed r = parsed_as (λ x. x) r
