-- an entry that was found is altered where it stands
use Rattle.std.proofs.Common.{◌≡◌, ℕ, suc, Bool, true, false, cond, eqb, List, [], ◌∷◌, length, set, get_or, Some, None, sym, refl, ap, ◌∙◌, arith}
use Rattle.std.proofs.lemmas.List.{length-set}
use Rattle.std.specs.List.{refill}
use Rattle.std.specs.Option.{option_map}
use Rattle.list.proofs.Removed.{index_behind, next_some, next_none, refill_same}
use Rattle.list.specs.Keyed.{index_of, altered}

module _ {X : Type 0} (key : X → ℕ) (sought : ℕ) (alter : X → X) where
  found_step : (x d : X) (xs : List X) (b : Bool) (i : ℕ) → cond b (Some 0) (option_map (λ k. suc k) (index_of key sought xs)) ≡ Some i → ((j : ℕ) → index_of key sought xs ≡ Some j → set xs j (alter (get_or xs j d)) ≡ altered key sought alter xs) → set (x ∷ xs) i (alter (get_or (x ∷ xs) i d)) ≡ cond b (alter x ∷ xs) (x ∷ altered key sought alter xs)
  found_step x d xs true i e rest = let z : i ≡ 0 = cc in rw z refl
  found_step x d xs false i e rest =
      let n = next_some (index_of key sought xs) i e in
      rw n.1.1 (ap (λ ys. x ∷ ys) (rest n.0 n.1.0))

  -- where an entry was found it is the one that is altered
  pub altered_at : (d : X) (xs : List X) (i : ℕ) → index_of key sought xs ≡ Some i → set xs i (alter (get_or xs i d)) ≡ altered key sought alter xs
  altered_at d [] i e = absurd (let z : ◌≡◌ {A = ℕ} 0 1 = cc in omega arith)
  altered_at d (x ∷ xs) i e = found_step x d xs (eqb (key x) sought) i (sym (index_behind key sought x xs) ∙ e) (altered_at d xs)

  none_step : (x : X) (xs : List X) (b : Bool) → cond b (Some 0) (option_map (λ k. suc k) (index_of key sought xs)) ≡ None → (index_of key sought xs ≡ None → altered key sought alter xs ≡ xs) → cond b (alter x ∷ xs) (x ∷ altered key sought alter xs) ≡ x ∷ xs
  none_step x xs true e rest = absurd (let z : ◌≡◌ {A = ℕ} 0 1 = cc in omega arith)
  none_step x xs false e rest = ap (λ ys. x ∷ ys) (rest (next_none (index_of key sought xs) e))

  -- where none was found none is altered
  pub altered_none : (xs : List X) → index_of key sought xs ≡ None → altered key sought alter xs ≡ xs
  altered_none [] e = refl
  altered_none (x ∷ xs) e = none_step x xs (eqb (key x) sought) (sym (index_behind key sought x xs) ∙ e) (altered_none xs)

  -- a list that was lent whole, and given back with the entry that was found altered
  pub lent_altered : (d new : X) (xs shown lent : List X) (i : ℕ) → shown ≡ xs → lent ≡ xs → Some i ≡ index_of key sought shown → new ≡ alter (get_or lent i d) → refill (length xs) xs (set lent i new) ≡ altered key sought alter xs
  lent_altered d new xs shown lent i e l found n =
      let f : index_of key sought xs ≡ Some i = ap (index_of key sought) (sym e) ∙ sym found in
      let same : set lent i new ≡ set xs i (alter (get_or xs i d)) = ap (set lent i) n ∙ ap (λ ys. set ys i (alter (get_or ys i d))) l in
      ap (refill (length xs) xs) same ∙ refill_same xs (set xs i (alter (get_or xs i d))) (length-set xs i (alter (get_or xs i d))) ∙ altered_at d xs i f

  -- where none was found in what was shown, none is altered
  pub none_altered : (xs shown : List X) → shown ≡ xs → None ≡ index_of key sought shown → xs ≡ altered key sought alter xs
  none_altered xs shown e found = sym (altered_none xs (ap (index_of key sought) (sym e) ∙ sym found))
