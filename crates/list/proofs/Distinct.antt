-- lists in which no two entries have the same key
use Rattle.std.proofs.Common.{◌≡◌, ℕ, zero, suc, ◌<◌, ◌≤◌, Bool, true, false, cond, eqb, ltb, List, [], ◌∷◌, ◌++◌, length, get_or, is_some as option_is_some, Some, None, Option, sym, refl, ap, ◌∙◌, arith, eq-eqb, ne_eqb, eqb-true}
use Rattle.list.proofs.Entries.{some_is}
use Rattle.list.specs.Keyed.{index_of, entry_of, without, Distinct}
use Rattle.std.proofs.lemmas.Bool.{ltb-true, ltb-false}
use Rattle.std.proofs.lemmas.List.Folds.{find-append, find_at}
use Rattle.std.proofs.lemmas.Option.{slice_get-get_or, slice_get_past}
use Rattle.std.specs.List.{position_or_len, slice_get}

module _ {X : Type 0} (key : X → ℕ) where
  -- the entry at the index where the key was found
  pub found_entry : (sought : ℕ) (xs : List X) (i : ℕ) (d : X) → index_of key sought xs ≡ Some i → entry_of key sought xs ≡ Some (get_or xs i d)
  found_entry sought xs i d e = go (ltb n (length xs)) refl e
    where
      n : ℕ
      n = position_or_len (λ x. eqb (key x) sought) xs

      go : (b : Bool) → ltb n (length xs) ≡ b → cond b (Some n) None ≡ Some i → entry_of key sought xs ≡ Some (get_or xs i d)
      go true t e =
          let same : n ≡ i = cc in
          find_at (λ x. eqb (key x) sought) xs ∙ slice_get-get_or xs n d (ltb-true n (length xs) t) ∙ ap (λ k. Some (get_or xs k d)) same
      go false t e = absurd (let z : ◌≡◌ {A = ℕ} 0 1 = cc in omega arith)

  -- where no index was found there is no entry
  pub missed_entry : (sought : ℕ) (xs : List X) → index_of key sought xs ≡ None → entry_of key sought xs ≡ None
  missed_entry sought xs e = go (ltb n (length xs)) refl e
    where
      n : ℕ
      n = position_or_len (λ x. eqb (key x) sought) xs

      go : (b : Bool) → ltb n (length xs) ≡ b → cond b (Some n) None ≡ None → entry_of key sought xs ≡ None
      go true t e = absurd (let z : ◌≡◌ {A = ℕ} 0 1 = cc in omega arith)
      go false t e = find_at (λ x. eqb (key x) sought) xs ∙ slice_get_past xs n (ltb-false n (length xs) t)

  -- behind entries without its key an entry is found
  pub push_found : (xs : List X) (y : X) → entry_of key (key y) xs ≡ None → entry_of key (key y) (xs ++ (y ∷ [])) ≡ Some y
  push_found xs y e = find-append (λ x. eqb (key x) (key y)) xs (y ∷ []) ∙ (rw e (rw (eq-eqb (key y) (key y) refl) refl))

  -- other keys find what they found before
  pub push_other : (xs : List X) (y : X) (k : ℕ) → (k ≡ key y → ⊥) → entry_of key k (xs ++ (y ∷ [])) ≡ entry_of key k xs
  push_other [] y k n = rw (ne_eqb (key y) k (λ e. n (sym e))) refl
  push_other (x ∷ xs) y k n = ap (λ t. cond (eqb (key x) k) (Some x) t) (push_other xs y k n)

  without_step : (x : X) (k sought : ℕ) (b : Bool) (xs rest : List X) → (k ≡ sought → ⊥) → eqb (key x) sought ≡ b → entry_of key k rest ≡ entry_of key k xs → entry_of key k (cond b xs (x ∷ rest)) ≡ cond (eqb (key x) k) (Some x) (entry_of key k xs)
  without_step x k sought true xs rest n e h = rw (ne_eqb (key x) k (λ z. n (sym z ∙ eqb-true (key x) sought e))) refl
  without_step x k sought false xs rest n e h = ap (λ t. cond (eqb (key x) k) (Some x) t) h

  pub without_other : (xs : List X) (k sought : ℕ) → (k ≡ sought → ⊥) → entry_of key k (without key sought xs) ≡ entry_of key k xs
  without_other [] k sought n = refl
  without_other (x ∷ xs) k sought n = without_step x k sought (eqb (key x) sought) xs (without key sought xs) n refl (without_other xs k sought n)

  gone_step : (x : X) (sought : ℕ) (b : Bool) (xs rest : List X) → eqb (key x) sought ≡ b → entry_of key (key x) xs ≡ None → entry_of key sought rest ≡ None → entry_of key sought (cond b xs (x ∷ rest)) ≡ None
  gone_step x sought true xs rest e h r = ap (λ k. entry_of key k xs) (sym (eqb-true (key x) sought e)) ∙ h
  gone_step x sought false xs rest e h r = rw e r

  -- what was taken out by its key is there no more
  pub gone : (xs : List X) (sought : ℕ) → Distinct key xs → entry_of key sought (without key sought xs) ≡ None
  gone [] sought d = refl
  gone (x ∷ xs) sought d = gone_step x sought (eqb (key x) sought) xs (without key sought xs) refl d.0 (gone xs sought d.1)

  both_none : (x : X) (b : Bool) (t : Option X) → cond b (Some x) t ≡ None → t ≡ None
  both_none x true t e = absurd (let z : ◌≡◌ {A = ℕ} 0 1 = cc in omega arith)
  both_none x false t e = e

  not_first : (x : X) (k : ℕ) (t : Option X) → cond (eqb (key x) k) (Some x) t ≡ None → (k ≡ key x → ⊥)
  not_first x k t e z = let w : eqb (key x) k ≡ true = eq-eqb (key x) k (sym z) in let v : ◌≡◌ {A = Option X} (Some x) None = sym (ap (λ b. cond b (Some x) t) w) ∙ e in let u : ◌≡◌ {A = ℕ} 0 1 = cc in omega arith

  still_missing_step : (x : X) (k : ℕ) (b : Bool) (xs rest : List X) → cond (eqb (key x) k) (Some x) (entry_of key k xs) ≡ None → (entry_of key k xs ≡ None → entry_of key k rest ≡ None) → entry_of key k (cond b xs (x ∷ rest)) ≡ None
  still_missing_step x k true xs rest e h = both_none x (eqb (key x) k) (entry_of key k xs) e
  still_missing_step x k false xs rest e h = let z = h (both_none x (eqb (key x) k) (entry_of key k xs) e) in ap (λ t. cond (eqb (key x) k) (Some x) t) (z ∙ sym (both_none x (eqb (key x) k) (entry_of key k xs) e)) ∙ e

  still_missing : (xs : List X) (k sought : ℕ) → entry_of key k xs ≡ None → entry_of key k (without key sought xs) ≡ None
  still_missing [] k sought e = refl
  still_missing (x ∷ xs) k sought e = still_missing_step x k (eqb (key x) sought) xs (without key sought xs) e (still_missing xs k sought)

  distinct_step : (x : X) (sought : ℕ) (b : Bool) (xs : List X) → entry_of key (key x) xs ≡ None → Distinct key xs → Distinct key (without key sought xs) → Distinct key (cond b xs (x ∷ without key sought xs))
  distinct_step x sought true xs e d r = d
  distinct_step x sought false xs e d r = (still_missing xs (key x) sought e, r)

  pub distinct_without : (xs : List X) (sought : ℕ) → Distinct key xs → Distinct key (without key sought xs)
  distinct_without [] sought d = tt
  distinct_without (x ∷ xs) sought d = distinct_step x sought (eqb (key x) sought) xs d.0 d.1 (distinct_without xs sought d.1)

  pub distinct_push : (xs : List X) (y : X) → Distinct key xs → entry_of key (key y) xs ≡ None → Distinct key (xs ++ (y ∷ []))
  distinct_push [] y d e = (refl, tt)
  distinct_push (x ∷ xs) y d e =
      let other : key x ≡ key y → ⊥ = (λ z. not_first x (key y) (entry_of key (key y) xs) e (sym z)) in
      (push_other xs y (key x) other ∙ d.0, distinct_push xs y d.1 (both_none x (eqb (key x) (key y)) (entry_of key (key y) xs) e))

  at_step : (x o : X) (xs : List X) (b : Bool) → eqb (key x) (key o) ≡ b → entry_of key (key x) xs ≡ None → entry_of key (key o) xs ≡ Some o → cond b (Some x) (entry_of key (key o) xs) ≡ Some o
  at_step x o xs true e h r = absurd (let z : ◌≡◌ {A = Option X} None (Some o) = sym h ∙ ap (λ k. entry_of key k xs) (eqb-true (key x) (key o) e) ∙ r in let y : ◌≡◌ {A = ℕ} 0 1 = cc in omega arith)
  at_step x o xs false e h r = r

  -- an entry is found by its own key
  pub found_by_key : (xs : List X) (i : ℕ) (o : X) → Distinct key xs → slice_get xs i ≡ Some o → entry_of key (key o) xs ≡ Some o
  found_by_key [] i o d e = absurd (let z : ◌≡◌ {A = ℕ} 0 1 = cc in omega arith)
  found_by_key (x ∷ xs) zero o d e = let z : x ≡ o = cc in rw (eq-eqb (key x) (key o) (ap key z)) e
  found_by_key (x ∷ xs) (suc i) o d e = at_step x o xs (eqb (key x) (key o)) refl d.0 (found_by_key xs i o d.1 e)

  shorter_step : (x o : X) (sought : ℕ) (xs : List X) (b : Bool) → cond b (Some x) (entry_of key sought xs) ≡ Some o → (entry_of key sought xs ≡ Some o → suc (length (without key sought xs)) ≡ length xs) → suc (length (cond b xs (x ∷ without key sought xs))) ≡ suc (length xs)
  shorter_step x o sought xs true e h = refl
  shorter_step x o sought xs false e h = ap (λ n. suc n) (h e)

  -- a list is one shorter once an entry was taken out
  pub shorter : (xs : List X) (sought : ℕ) (o : X) → entry_of key sought xs ≡ Some o → suc (length (without key sought xs)) ≡ length xs
  shorter [] sought o e = absurd (let z : ◌≡◌ {A = ℕ} 0 1 = cc in omega arith)
  shorter (x ∷ xs) sought o e = shorter_step x o sought xs (eqb (key x) sought) e (shorter xs sought o)

  -- a list that has an entry for each key below n has n entries at least
  pub as_many : (n : ℕ) (xs : List X) → ((k : ℕ) → k < n → option_is_some (entry_of key k xs) ≡ true) → n ≤ length xs
  as_many zero xs h = omega arith
  as_many (suc n) xs h =
      let o = some_is (entry_of key n xs) (h n (omega arith)) in
      let less = shorter xs n o.0 o.1 in
      let rest = as_many n (without key n xs) (λ k l. ap option_is_some (without_other xs k n (λ e. omega arith)) ∙ h k (omega arith)) in
      omega arith
