-- what is picked where every way is offered
use Rattle.std.proofs.Common.{◌≡◌, ℕ, ◌<◌, ◌≤◌, cond, ltb, List, [], ◌∷◌, Some, None, refl, ◌∙◌, ⊎_elim, arith}
use Rattle.line.proofs.Masks.{value_mask_bits}
use Rattle.line.specs.Laid.{bit}
use Rattle.replacement.proofs.Once.{count_small}
use Rattle.replacement.specs.declared.geometry.Geometry.{Geometry}
use Rattle.replacement.specs.Orders.{EachOnce, first_offered, picked}
use Rattle.std.proofs.lemmas.Bool.{cases_lt, cond-true, lt-ltb, le-ltb}
use Rattle.std.proofs.lemmas.Bool.Decides.{nat_tests}
use Rattle.std.specs.List.{slice_get}

-- the mask 255 offers every way, so the first in the order is picked
all_offered : (ways : ℕ) (order : List ℕ) → ways ≤ 8 → EachOnce ways order → first_offered 255 order ≡ slice_get order 0
all_offered ways [] few once = refl
all_offered ways (w ∷ ws) few once =
    let one = once w in
    let below : w < 8 = grind (arith, nat_tests) in
    cond-true (bit 255 w) (Some w) (first_offered 255 ws) (value_mask_bits 0 8 w ∙ grind (arith, nat_tests))

-- what a rule picks where every way is offered
pub victim : (g : Geometry) (set : ℕ) (order : ℕ → List ℕ) → (set < g.sets → EachOnce g.ways (order set)) → picked g.sets order set 255 ≡ cond (ltb set g.sets) (slice_get (order set) 0) None
victim g set order once =
    ⊎_elim
    (λ h. rw (lt-ltb set g.sets h) (all_offered g.ways (order set) (count_small g.ways g.ways_count) (once h)))
    (λ h. rw (le-ltb set g.sets h) refl)
    (cases_lt set g.sets)
