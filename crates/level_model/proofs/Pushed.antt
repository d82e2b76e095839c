-- entries pushed on a list while there is room
use Rattle.std.proofs.Common.{◌≡◌, ◌≢◌, ℕ, ◌+◌, ◌≤◌, List, [], ◌∷◌, ◌++◌, length, refl, sym, ap, ◌∙◌, arith, ne_eqb}
use Rattle.std.proofs.lemmas.List.{append-nil, append_assoc, length_push}
use Rattle.level_model.specs.Steps.{pushed_all}
use Rattle.level_model.specs.Tables.{pushed}

-- where there is room an entry joins the others
pub pushed_room : {X : Type 0} (limit : ℕ) (xs : List X) (y : X) → length xs ≢ limit → pushed limit xs y ≡ xs ++ (y ∷ [])
pushed_room limit xs y n = rw (ne_eqb (length xs) limit n) refl

-- and where there is room for all they do
pub pushed_all_room : {X : Type 0} (limit : ℕ) (xs ys : List X) → length xs + length ys ≤ limit → pushed_all limit xs ys ≡ xs ++ ys
pushed_all_room limit xs [] h = sym (append-nil xs)
pushed_all_room limit xs (y ∷ ys) h =
    let l = length_push xs y in
    ap (λ zs. pushed_all limit zs ys) (pushed_room limit xs y (λ e. omega arith))
    ∙ pushed_all_room limit (xs ++ (y ∷ [])) ys (omega (arith, l))
    ∙ append_assoc xs (y ∷ []) ys
