-- lists of entries and the lists of their numbers
use Rattle.std.proofs.Common.{◌≡◌, ◌≢◌, ℕ, ◌<◌, ◌≤◌, Bool, true, false, cond, eqb, List, [], ◌∷◌, ◌++◌, length, map, is_some, Some, None, Option, sym, refl, ap, ◌∙◌, ⊎_elim, arith, eq-eqb, ne_eqb}
use Rattle.std.proofs.lemmas.Bool.{cases_eq}
use Rattle.list.proofs.Distinct.{without_other, gone, shorter}
use Rattle.list.proofs.Entries.{some_is}
use Rattle.list.specs.Keyed.{entry_of, without, altered, Distinct}
use Rattle.port.specs.Promise.{has}

-- true is not false
pub true_false : true ≡ false → ⊥
true_false e = let z : ◌≡◌ {A = ℕ} 0 1 = cc in omega arith

-- what is not there is nothing
pub none_is : {X : Type 0} (r : Option X) → is_some r ≡ false → r ≡ None
none_is None e = refl
none_is (Some x) e = absurd (true_false e)

-- numbers may be compared either way round
eqb_swap : (a b : ℕ) → eqb a b ≡ eqb b a
eqb_swap a b =
    ⊎_elim
    (λ e. eq-eqb a b e ∙ sym (eq-eqb b a (sym e)))
    (λ n. ne_eqb a b n ∙ sym (ne_eqb b a (λ e. n (sym e))))
    (cases_eq a b)

module _ {X : Type 0} (key : X → ℕ) where
  -- the keys of a list with an entry behind it
  pub map_push : (xs : List X) (y : X) → map key (xs ++ (y ∷ [])) ≡ map key xs ++ (key y ∷ [])
  map_push [] y = refl
  map_push (x ∷ xs) y = ap (λ t. key x ∷ t) (map_push xs y)

  map_without_step : (x : X) (b : Bool) (xs rest : List X) (r : List ℕ) → map key rest ≡ r → map key (cond b xs (x ∷ rest)) ≡ cond b (map key xs) (key x ∷ r)
  map_without_step x true xs rest r e = refl
  map_without_step x false xs rest r e = ap (λ t. key x ∷ t) e

  -- the keys of a list without an entry
  pub map_without : (xs : List X) (sought : ℕ) → map key (without key sought xs) ≡ without (λ k. k) sought (map key xs)
  map_without [] sought = refl
  map_without (x ∷ xs) sought = map_without_step x (eqb (key x) sought) xs (without key sought xs) (without (λ k. k) sought (map key xs)) (map_without xs sought)

  map_altered_step : (alter : X → X) → ((x : X) → key (alter x) ≡ key x) → (x : X) (b : Bool) (xs rest : List X) → map key rest ≡ map key xs → map key (cond b (alter x ∷ xs) (x ∷ rest)) ≡ key x ∷ map key xs
  map_altered_step alter same x true xs rest e = ap (λ k. k ∷ map key xs) (same x)
  map_altered_step alter same x false xs rest e = ap (λ t. key x ∷ t) e

  -- the keys of a list stay where an entry is altered that keeps its key
  pub map_altered : (sought : ℕ) (alter : X → X) → ((x : X) → key (alter x) ≡ key x) → (xs : List X) → map key (altered key sought alter xs) ≡ map key xs
  map_altered sought alter same [] = refl
  map_altered sought alter same (x ∷ xs) = map_altered_step alter same x (eqb (key x) sought) xs (altered key sought alter xs) (map_altered sought alter same xs)

  has_map_step : (x : X) (b : Bool) (r : Option ℕ) (t : Option X) → is_some r ≡ is_some t → is_some (cond b (Some (key x)) r) ≡ is_some (cond b (Some x) t)
  has_map_step x true r t e = refl
  has_map_step x false r t e = e

  -- the keys have a number where an entry of that key is found
  pub has_map : (xs : List X) (u : ℕ) → has u (map key xs) ≡ is_some (entry_of key u xs)
  has_map [] u = refl
  has_map (x ∷ xs) u = has_map_step x (eqb (key x) u) (entry_of (λ k. k) u (map key xs)) (entry_of key u xs) (has_map xs u)

-- what a list has, with one more
pub has_push : (numbers : List ℕ) (n u : ℕ) → has u (numbers ++ (n ∷ [])) ≡ cond (eqb u n) true (has u numbers)
has_push [] n u = go (eqb n u) (eqb u n) (eqb_swap n u)
  where
    go : (b c : Bool) → b ≡ c → is_some (cond b (Some n) None) ≡ cond c true false
    go true true e = refl
    go false false e = refl
    go true false e = absurd (true_false e)
    go false true e = absurd (true_false (sym e))
has_push (x ∷ xs) n u = go (eqb x u) (eqb u n) (entry_of (λ k. k) u (xs ++ (n ∷ []))) (entry_of (λ k. k) u xs) (has_push xs n u)
  where
    go : (b c : Bool) (r t : Option ℕ) → is_some r ≡ cond c true (is_some t) → is_some (cond b (Some x) r) ≡ cond c true (is_some (cond b (Some x) t))
    go true true r t e = refl
    go true false r t e = refl
    go false c r t e = e

-- and with one less
pub has_without : (numbers : List ℕ) (n u : ℕ) → Distinct (λ k. k) numbers → has u (without (λ k. k) n numbers) ≡ cond (eqb u n) false (has u numbers)
has_without numbers n u d =
    ⊎_elim
    (λ e. ap (λ k. has k (without (λ k. k) n numbers)) e ∙ ap is_some (gone (λ k. k) numbers n d) ∙ rw (eq-eqb u n e) refl)
    (λ ne. ap is_some (without_other (λ k. k) numbers u n ne) ∙ rw (ne_eqb u n ne) refl)
    (cases_eq u n)

-- a list whose numbers another has all is no longer
no_more : (few many : List ℕ) → Distinct (λ k. k) few → ((u : ℕ) → has u few ≡ true → has u many ≡ true) → length few ≤ length many
no_more [] many d h = omega arith
no_more (x ∷ xs) many d h =
    let x_first : has x (x ∷ xs) ≡ true = rw (eq-eqb x x refl) refl in
    let o = some_is (entry_of (λ k. k) x many) (h x x_first) in
    let less = shorter (λ k. k) many x o.0 o.1 in
    let apart : (u : ℕ) → has u xs ≡ true → u ≢ x = (λ u e z. true_false (sym e ∙ ap (λ k. has k xs) z ∙ ap is_some d.0)) in
    let behind : (u : ℕ) → has u xs ≡ true → has u (x ∷ xs) ≡ true = (λ u e. rw (ne_eqb x u (λ z. apart u e (sym z))) e) in
    let rest = no_more xs (without (λ k. k) x many) d.1 (λ u e. ap is_some (without_other (λ k. k) many u x (apart u e)) ∙ h u (behind u e)) in
    omega arith

-- a list with a number that another has not, whose numbers it has all, is longer
pub fewer : (few many : List ℕ) (n : ℕ) → Distinct (λ k. k) few → ((u : ℕ) → has u few ≡ true → has u many ≡ true) → has n many ≡ true → has n few ≡ false → length few < length many
fewer few many n d h e f =
    let o = some_is (entry_of (λ k. k) n many) e in
    let less = shorter (λ k. k) many n o.0 o.1 in
    let apart : (u : ℕ) → has u few ≡ true → u ≢ n = (λ u g z. true_false (sym g ∙ ap (λ k. has k few) z ∙ f)) in
    let rest = no_more few (without (λ k. k) n many) d (λ u g. ap is_some (without_other (λ k. k) many u n (apart u g)) ∙ h u g) in
    omega arith

-- a list that has a number is not empty
pub has_some : (numbers : List ℕ) (n : ℕ) → has n numbers ≡ true → 1 ≤ length numbers
has_some [] n e = absurd (true_false (sym e))
has_some (x ∷ xs) n e = omega arith
