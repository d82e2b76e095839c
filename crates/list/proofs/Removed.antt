-- the first entry that has a key: where it stands, and what is left when it goes
use Rattle.std.proofs.Common.{◌≡◌, ℕ, suc, ◌+◌, ◌-◌, ◌<◌, Bool, true, false, cond, eqb, List, [], ◌∷◌, ◌++◌, length, take, drop, Some, None, Option, sym, refl, ap, ◌∙◌, arith, not, ltb}
use borrow.Rule.Slice.PartMut.{put_mid}
use Rattle.list.specs.Keyed.{taken, index_of, without, moved}
use Rattle.std.proofs.lemmas.List.{append-nil, drop_all, drop-drop, length-drop, same_from_push, take_all, take_rest}
use Rattle.std.specs.List.{prefix_len, refill}
use Rattle.std.specs.Option.{option_map}
use Rattle.std.proofs.lemmas.Bool.Decides.{nat_tests}

index_step : (b : Bool) (n long : ℕ) → cond (ltb (cond (not b) (1 + n) 0) (suc long)) (Some (cond (not b) (1 + n) 0)) None ≡ cond b (Some 0) (option_map (λ k. suc k) (cond (ltb n long) (Some n) None))
index_step true n long = grind (arith, nat_tests)
index_step false n long = grind (arith, nat_tests)

pub next_some : (r : Option ℕ) (i : ℕ) → option_map (λ k. suc k) r ≡ Some i → (j : ℕ) × ((r ≡ Some j) × (i ≡ suc j))
next_some None i e = absurd (let z : ◌≡◌ {A = ℕ} 0 1 = cc in omega arith)
next_some (Some k) i e = (k, (refl, cc))

pub next_none : (r : Option ℕ) → option_map (λ k. suc k) r ≡ None → r ≡ None
next_none None e = refl
next_none (Some k) e = absurd (let z : ◌≡◌ {A = ℕ} 0 1 = cc in omega arith)

-- of xs the entry at i was taken, the others are left, and to the end it was moved
abbrev pub Goes : {X : Type 0} → List X → ℕ → Option (ℕ × X) → List X → List X → Type 0
Goes {X} xs i took left after =
    (e : X) × (i < length xs) × (took ≡ Some (i, e)) × (after ≡ left ++ (e ∷ [])) × (after ≡ take i xs ++ (drop (suc i) xs ++ take 1 (drop i xs)))

-- of xs none was taken, and all stay
abbrev pub Stays : {X : Type 0} → List X → Option (ℕ × X) → List X → List X → Type 0
Stays xs took left after = (took ≡ None) × (left ≡ xs) × (after ≡ xs)

module _ {X : Type 0} (key : X → ℕ) (sought : ℕ) where
  -- where an index is found behind a first entry
  pub index_behind : (x : X) (xs : List X) → index_of key sought (x ∷ xs) ≡ cond (eqb (key x) sought) (Some 0) (option_map (λ k. suc k) (index_of key sought xs))
  index_behind x xs = index_step (eqb (key x) sought) (prefix_len (λ y. not (eqb (key y) sought)) xs) (length xs)

  goes_step : (x : X) (xs : List X) (b : Bool) (i : ℕ) → cond b (Some 0) (option_map (λ k. suc k) (index_of key sought xs)) ≡ Some i → ((j : ℕ) → index_of key sought xs ≡ Some j → Goes xs j (taken key sought xs) (without key sought xs) (moved key sought xs)) → Goes (x ∷ xs) i (cond b (Some (0, x)) (option_map (λ p. (suc p.0, p.1)) (taken key sought xs))) (cond b xs (x ∷ without key sought xs)) (cond b (xs ++ (x ∷ [])) (x ∷ moved key sought xs))
  goes_step x xs true i e rest = let z : i ≡ 0 = cc in rw z (x, omega arith, refl, refl, refl)
  goes_step x xs false i e rest =
      let n = next_some (index_of key sought xs) i e in
      let s = rest n.0 n.1.0 in
      rw n.1.1 (s.0, omega arith, ap (λ t. option_map (λ p. (suc p.0, p.1)) t) s.2, ap (λ ys. x ∷ ys) s.3, ap (λ ys. x ∷ ys) s.4)

  -- an entry that was found goes
  pub goes : (xs : List X) (i : ℕ) → index_of key sought xs ≡ Some i → Goes xs i (taken key sought xs) (without key sought xs) (moved key sought xs)
  goes [] i e = absurd (let z : ◌≡◌ {A = ℕ} 0 1 = cc in omega arith)
  goes (x ∷ xs) i e = goes_step x xs (eqb (key x) sought) i (sym (index_behind x xs) ∙ e) (goes xs)

  stays_step : (x : X) (xs : List X) (b : Bool) → cond b (Some 0) (option_map (λ k. suc k) (index_of key sought xs)) ≡ None → (index_of key sought xs ≡ None → Stays xs (taken key sought xs) (without key sought xs) (moved key sought xs)) → Stays (x ∷ xs) (cond b (Some (0, x)) (option_map (λ p. (suc p.0, p.1)) (taken key sought xs))) (cond b xs (x ∷ without key sought xs)) (cond b (xs ++ (x ∷ [])) (x ∷ moved key sought xs))
  stays_step x xs true e rest = absurd (let z : ◌≡◌ {A = ℕ} 0 1 = cc in omega arith)
  stays_step x xs false e rest =
      let s = rest (next_none (index_of key sought xs) e) in
      (ap (λ t. option_map (λ p. (suc p.0, p.1)) t) s.0, ap (λ ys. x ∷ ys) s.1, ap (λ ys. x ∷ ys) s.2)

  -- where none was found all stay
  pub stays : (xs : List X) → index_of key sought xs ≡ None → Stays xs (taken key sought xs) (without key sought xs) (moved key sought xs)
  stays [] e = (refl, refl, refl)
  stays (x ∷ xs) e = stays_step x xs (eqb (key x) sought) (sym (index_behind x xs) ∙ e) (stays xs)

  -- ys was lent as xs: where none was found, zs is what was there, and none is taken
  pub none_taken : (xs ys zs : List X) → ys ≡ xs → None ≡ index_of key sought ys → zs ≡ moved key sought ys → (None ≡ taken key sought xs) × (zs ≡ without key sought xs)
  none_taken xs ys zs lent found after =
      let s = stays xs (ap (index_of key sought) (sym lent) ∙ sym found) in
      (sym s.0, after ∙ ap (moved key sought) lent ∙ s.2 ∙ sym s.1)

  -- the last entry, once the one that was found stands there, is the one taken, and those before it are left
  pub last_taken : (xs ys zs : List X) (i : ℕ) (front : List X) (last : X) → ys ≡ xs → Some i ≡ index_of key sought ys → zs ≡ moved key sought ys → zs ≡ front ++ (last ∷ []) → (Some (i, last) ≡ taken key sought xs) × (front ≡ without key sought xs)
  last_taken xs ys zs i front last lent found after ends =
      let s = goes xs i (ap (index_of key sought) (sym lent) ∙ sym found) in
      let is : zs ≡ without key sought xs ++ (s.0 ∷ []) = after ∙ ap (moved key sought) lent ∙ s.3 in
      let same = same_from_push front (without key sought xs) last s.0 (sym ends ∙ is) in
      (ap (λ e. Some (i, e)) same.1 ∙ sym s.2, same.0)

-- the part from i on, turned by one index
pub turned : {X : Type 0} (xs zs : List X) (i : ℕ) → zs ≡ drop 1 (take (length xs - i) (drop i xs)) ++ take 1 (take (length xs - i) (drop i xs)) → put_mid i (length xs - i) xs zs ≡ take i xs ++ (drop (suc i) xs ++ take 1 (drop i xs))
turned xs zs i e =
    let none : drop (length xs - i) (drop i xs) ≡ [] = drop_all (length xs - i) (drop i xs) (simp length-drop (omega arith)) in
    let back : drop 1 (drop i xs) ≡ drop (suc i) xs = (let one : i + 1 ≡ suc i = omega arith in drop-drop 1 i xs ∙ ap (λ n. drop n xs) one) in
    ap (λ t. take i xs ++ (zs ++ t)) none
    ∙ ap (λ t. take i xs ++ t) (append-nil zs ∙ e ∙ ap (λ t. drop 1 t ++ take 1 t) (take_rest xs i) ∙ ap (λ t. t ++ take 1 (drop i xs)) back)

-- a list that was lent whole, once it was given back as long as it was, is what was given back
pub refill_same : {X : Type 0} (xs zs : List X) → length zs ≡ length xs → refill (length xs) xs zs ≡ zs
refill_same xs zs long =
    ap (λ rest. take (length xs) (zs ++ rest)) (drop_all (length zs) xs (omega arith))
    ∙ ap (take (length xs)) (append-nil zs)
    ∙ take_all (length xs) zs (omega arith)
