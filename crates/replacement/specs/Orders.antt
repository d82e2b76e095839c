use Rattle.std.specs.Prelude.{◌≡◌, find, ℕ, ◌+◌, ◌<◌, true, false, if◌then◌else◌, ◌&&◌, List, [], ◌∷◌, Some, None, Option, ◌==◌, nat_lt}
use Rattle.line.specs.Laid.{bit}
use Rattle.list.specs.Keyed.{moved}
use Rattle.replacement.specs.declared.geometry.Geometry.{Geometry}
use Rattle.std.specs.List.{range_with_len}

-- how often a way stands in an order
abbrev pub times : ℕ → List ℕ → ℕ
times w [] = 0
times w (x ∷ xs) = (if x == w then 1 else 0) + times w xs

-- each way below `ways` stands in the order once, and nothing else stands there
abbrev pub EachOnce : ℕ → List ℕ → Type 0
EachOnce ways order = (w : ℕ) → times w order ≡ (if nat_lt w ways then 1 else 0)

-- the order that a set has at first: its ways from the lowest up
abbrev pub first_order : ℕ → List ℕ
first_order ways = range_with_len 0 ways

-- an order with one way moved behind the others, which keep theirs
abbrev pub moved_to_end : ℕ → List ℕ → List ℕ
moved_to_end way order = moved (λ w. w) way order

-- the first way of an order that is offered, where bit w of the mask offers way w
abbrev pub first_offered : ℕ → List ℕ → Option ℕ
first_offered offered order = find (λ w. bit offered w) order

-- what a rule picks: of a set that there is the first way in its order that is offered
abbrev pub picked : ℕ → (ℕ → List ℕ) → ℕ → ℕ → Option ℕ
picked sets order set offered = if nat_lt set sets then first_offered offered (order set) else None

-- a way is picked only where the set has it and it is offered, and none only where the set has none that is offered
abbrev pub Chosen : Geometry → ℕ → ℕ → Option ℕ → Type 0
Chosen g set offered None = set < g.sets → (w : ℕ) → w < g.ways → bit offered w ≡ false
Chosen g set offered (Some w) = (set < g.sets) × (w < g.ways) × (bit offered w ≡ true)

-- the order of set k once a rule was told of a way of a set: that set's new order, and the others' as before; nothing
-- changes where there is no such set or way
abbrev pub told : Geometry → (ℕ → List ℕ) → ℕ → ℕ → List ℕ → ℕ → List ℕ
told g order set way new k = if nat_lt set g.sets && (nat_lt way g.ways && k == set) then new else order k

-- and the rule stays just as it was
abbrev pub AbsentKept : {Q : Type 0} → Geometry → ℕ → ℕ → Q → Q → Type 0
AbsentKept g set way s t = (nat_lt set g.sets && nat_lt way g.ways) ≡ false → t ≡ s
