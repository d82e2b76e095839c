-- orders in which each way stands once
use Rattle.std.proofs.Common.{◌≡◌, ℕ, zero, suc, ◌+◌, ◌<◌, ◌≤◌, Bool, true, false, cond, ◌&&◌, eqb, ltb, leb, List, [], ◌∷◌, ◌++◌, length, get_or, take, set, Some, None, Option, sym, refl, ap, ◌∙◌, ⊎_elim, arith}
use Rattle.line.specs.Laid.{bit}
use Rattle.line.specs.Counts.{is_count}
use Rattle.replacement.specs.Orders.{times, EachOnce, moved_to_end, first_offered, Chosen, told}
use Rattle.replacement.specs.declared.geometry.Geometry.{Geometry}
use Rattle.std.proofs.lemmas.List.{get_or-set_same, get_or-set_other, take_at}
use Rattle.std.proofs.lemmas.Bool.{cases_eq}
use Rattle.std.proofs.lemmas.Bool.Decides.{nat_tests}
use Rattle.std.specs.List.{range_with_len}

-- no count is above 8
pub count_small : (n : ℕ) → is_count n ≡ true → n ≤ 8
count_small n h = grind (arith, nat_tests)

-- the ways from a up, n of them
times_counting : (w a n : ℕ) → times w (range_with_len a n) ≡ cond (leb a w && ltb w (a + n)) 1 0
times_counting w a zero = grind (arith, nat_tests)
times_counting w a (suc n) = let rest = times_counting w (a + 1) n in grind (arith, nat_tests)

take_counting : (a n k : ℕ) → k ≤ n → take k (range_with_len a n) ≡ range_with_len a k
take_counting a n zero h = refl
take_counting a zero (suc k) h = absurd (omega arith)
take_counting a (suc n) (suc k) h = ap (λ ws. a ∷ ws) (take_counting (a + 1) n k (omega arith))

-- as many of n ways, from the lowest up, as there are
pub starts : (n ways : ℕ) → ways ≤ n → EachOnce ways (take ways (range_with_len 0 n))
starts n ways h w = ap (times w) (take_counting 0 n ways h) ∙ times_counting w 0 ways ∙ grind (arith, nat_tests)

times_push : (w x : ℕ) (xs : List ℕ) → times w (xs ++ (x ∷ [])) ≡ cond (eqb x w) 1 0 + times w xs
times_push w x [] = refl
times_push w x (y ∷ ys) = omega (arith, times_push w x ys)

moved_step : (w x : ℕ) (xs after : List ℕ) (b : Bool) → times w after ≡ times w xs → times w (cond b (xs ++ (x ∷ [])) (x ∷ after)) ≡ cond (eqb x w) 1 0 + times w xs
moved_step w x xs after true rest = times_push w x xs
moved_step w x xs after false rest = ap (λ n. cond (eqb x w) 1 0 + n) rest

-- a way stands in an order as often as before one of them was moved
times_moved : (w way : ℕ) (xs : List ℕ) → times w (moved_to_end way xs) ≡ times w xs
times_moved w way [] = refl
times_moved w way (x ∷ xs) = moved_step w x xs (moved_to_end way xs) (eqb x way) (times_moved w way xs)

some_step : (m w x : ℕ) (xs : List ℕ) (b : Bool) → bit m x ≡ b → Some w ≡ cond b (Some x) (first_offered m xs) → (Some w ≡ first_offered m xs → (bit m w ≡ true) × (0 < times w xs)) → (bit m w ≡ true) × (0 < times w (x ∷ xs))
some_step m w x xs true is e rest =
    let same : w ≡ x = cc in
    let here : ◌≡◌ {A = ℕ} (cond (eqb x w) 1 0) 1 = grind (arith, nat_tests) in
    (ap (bit m) same ∙ is, omega arith)
some_step m w x xs false is e rest = let r = rest e in (r.0, omega arith)

-- the first way that is offered is offered, and stands in the order
first_some : (m w : ℕ) (xs : List ℕ) → Some w ≡ first_offered m xs → (bit m w ≡ true) × (0 < times w xs)
first_some m w [] e = absurd (let z : ◌≡◌ {A = ℕ} 0 1 = cc in omega arith)
first_some m w (x ∷ xs) e = some_step m w x xs (bit m x) refl e (first_some m w xs)

none_step : (m w x : ℕ) (xs : List ℕ) (b : Bool) → bit m x ≡ b → None ≡ cond b (Some x) (first_offered m xs) → 0 < times w (x ∷ xs) → (None ≡ first_offered m xs → 0 < times w xs → bit m w ≡ false) → bit m w ≡ false
none_step m w x xs true is e stands rest = absurd (let z : ◌≡◌ {A = ℕ} 0 1 = cc in omega arith)
none_step m w x xs false is e stands rest =
    ⊎_elim (λ same. ap (bit m) (sym same) ∙ is) (λ other. let none : ◌≡◌ {A = ℕ} (cond (eqb x w) 1 0) 0 = grind (arith, nat_tests) in rest e (omega arith)) (cases_eq x w)

-- where none is offered, no way that stands in the order is
first_none : (m w : ℕ) (xs : List ℕ) → None ≡ first_offered m xs → 0 < times w xs → bit m w ≡ false
first_none m w [] e stands = absurd (omega arith)
first_none m w (x ∷ xs) e stands = none_step m w x xs (bit m x) refl e stands (first_none m w xs)

-- of an order in which each way stands once, one of the set's ways is picked exactly where one is offered
pub chosen : (g : Geometry) (set offered : ℕ) (order : List ℕ) (r : Option ℕ) → set < g.sets → EachOnce g.ways order → r ≡ first_offered offered order → Chosen g set offered r
chosen g set offered order None inside once e = λ there w below. first_none offered w order e (let one = once w in grind (arith, nat_tests))
chosen g set offered order (Some w) inside once e =
    let s = first_some offered w order e in
    let one = once w in
    let below : w < g.ways = grind (arith, nat_tests) in
    (inside, below, s.0)

-- row i of the rows gets a new order in front, in which the way was moved to the end
module _ (g : Geometry) (rows : List (List ℕ)) (i way : ℕ) (order rest : List ℕ) (long : length order ≡ g.ways) (after : order ≡ moved_to_end way (take g.ways (get_or rows i []))) where
  row_moved : take g.ways (order ++ rest) ≡ moved_to_end way (take g.ways (get_or rows i []))
  row_moved = take_at order rest g.ways long ∙ after

  -- each way still stands once in each of so many sets
  pub once_moved : (n : ℕ) → ((k : ℕ) → k < n → EachOnce g.ways (take g.ways (get_or rows k []))) → i < length rows → (k : ℕ) → k < n → EachOnce g.ways (take g.ways (get_or (set rows i (order ++ rest)) k []))
  once_moved n once there k below w =
      ⊎_elim
      (λ same.
      ap (λ j. times w (take g.ways (get_or (set rows i (order ++ rest)) j []))) same
      ∙ ap (λ r. times w (take g.ways r)) (get_or-set_same rows i (order ++ rest) [] there)
      ∙ ap (times w) row_moved
      ∙ times_moved w way (take g.ways (get_or rows i []))
      ∙ once i (omega arith) w)
      (λ other. ap (λ r. times w (take g.ways r)) (get_or-set_other rows i k (order ++ rest) [] other) ∙ once k below w)
      (cases_eq k i)

  -- the set's order is the new one, and the others' stay
  pub order_moved : i < g.sets → way < g.ways → i < length rows → (k : ℕ) → take g.ways (get_or (set rows i (order ++ rest)) k []) ≡ told g (λ j. take g.ways (get_or rows j [])) i way (moved_to_end way (take g.ways (get_or rows i []))) k
  order_moved inside below there k =
      ⊎_elim
      (λ same.
      let told_so : (ltb i g.sets && (ltb way g.ways && eqb k i)) ≡ true = grind (arith, nat_tests) in
      rw told_so
      (ap (λ j. take g.ways (get_or (set rows i (order ++ rest)) j [])) same
      ∙ ap (take g.ways) (get_or-set_same rows i (order ++ rest) [] there)
      ∙ row_moved))
      (λ other.
      let not_so : (ltb i g.sets && (ltb way g.ways && eqb k i)) ≡ false = grind (arith, nat_tests) in
      rw not_so (ap (take g.ways) (get_or-set_other rows i k (order ++ rest) [] other)))
      (cases_eq k i)
