-- lists whose entries have a key and a weight
use Rattle.std.proofs.Common.{◌≡◌, ◌≢◌, ◌⊎◌, inl, inr, ℕ, ◌+◌, ◌≤◌, Bool, true, false, cond, eqb, List, [], ◌∷◌, ◌++◌, is_some, Some, None, Option, sym, refl, ap, ◌∙◌, ⊎_elim, arith, eq-eqb, eqb-true, ne_eqb}
use Rattle.std.specs.Prelude.{find}
use Rattle.std.specs.Option.{option_map, option_or}
use Rattle.std.proofs.lemmas.Bool.{cases_eq, eqb-false}
use Rattle.std.proofs.lemmas.List.Folds.{find-append}
use Rattle.list.specs.Keyed.{entry_of, without, altered, Distinct}
use Rattle.list.specs.Totals.{total}

-- nothing is not something
pub none_some : {X : Type 0} (x : X) → None ≡ Some x → ⊥
none_some x e = let z : ◌≡◌ {A = ℕ} 0 1 = cc in omega arith

-- what is something is there
pub some_is : {X : Type 0} (r : Option X) → is_some r ≡ true → (o : X) × (r ≡ Some o)
some_is None e = absurd (let z : ◌≡◌ {A = ℕ} 0 1 = cc in omega arith)
some_is (Some x) e = (x, refl)

-- where the first of two or else the second is nothing, both are
pub none_each : {X : Type 0} (x y : Option X) → option_or x y ≡ None → (x ≡ None) × (y ≡ None)
none_each None y e = (refl, e)
none_each (Some x) y e = absurd (none_some x (sym e))

-- parts of a list weigh what it weighs
pub total_append : {X : Type 0} (weight : X → ℕ) (xs ys : List X) → total weight (xs ++ ys) ≡ total weight xs + total weight ys
total_append weight [] ys = omega arith
total_append weight (x ∷ xs) ys = omega (arith, total_append weight xs ys)

-- a list with an entry behind it
pub total_push : {X : Type 0} (weight : X → ℕ) (xs : List X) (y : X) → total weight (xs ++ (y ∷ [])) ≡ total weight xs + weight y
total_push weight xs y = omega (arith, total_append weight xs (y ∷ []))

-- the list around the first entry that has a key
pub record Around {X : Type 0} (key : X → ℕ) (sought : ℕ) (xs : List X) (o : X) : Type 0 where
  pub before : List X
  pub after : List X
  pub whole : xs ≡ before ++ (o ∷ after)
  pub has : key o ≡ sought
  pub first : entry_of key sought before ≡ None
  pub left : without key sought xs ≡ before ++ after
  pub altered_so : (alter : X → X) → altered key sought alter xs ≡ before ++ (alter o ∷ after)

-- how often a key stands in a list
abbrev pub times : {X : Type 0} → (X → ℕ) → ℕ → List X → ℕ
times key k xs = total (λ x. cond (eqb (key x) k) 1 0) xs

-- of four parts the third may be sought before the second, where one of the two has nothing
swapped : {X : Type 0} (r a c b : Option X) → (a ≡ None) ⊎ (c ≡ None) → option_or (option_or r c) (option_or a b) ≡ option_or r (option_or a (option_or c b))
swapped (Some x) a c b h = refl
swapped None None c b h = refl
swapped None (Some x) None b h = refl
swapped None (Some x) (Some y) b (inl e) = absurd (none_some x (sym e))
swapped None (Some x) (Some y) b (inr e) = absurd (none_some y (sym e))

module _ {X : Type 0} (key : X → ℕ) where
  -- where the first entry is not found, it has another key, and the others are not found either
  pub not_first : (x : X) (k : ℕ) (b : Bool) (t : Option X) → eqb (key x) k ≡ b → cond b (Some x) t ≡ None → (key x ≡ k → ⊥) × (t ≡ None)
  not_first x k true t e h = absurd (none_some x (sym h))
  not_first x k false t e h = (eqb-false (key x) k e, h)

  -- an entry is sought in the first part, then in the other
  pub entry_append : (k : ℕ) (xs ys : List X) → entry_of key k (xs ++ ys) ≡ option_or (entry_of key k xs) (entry_of key k ys)
  entry_append k xs ys = find-append (λ x. eqb (key x) k) xs ys

  -- what neither part has is not there
  pub append_none : (k : ℕ) (xs ys : List X) → entry_of key k xs ≡ None → entry_of key k ys ≡ None → entry_of key k (xs ++ ys) ≡ None
  append_none k xs ys e f = entry_append k xs ys ∙ rw (e, f) refl

  -- an entry in the middle is found
  pub mid_found : (xs ys : List X) (x : X) → entry_of key (key x) xs ≡ None → entry_of key (key x) (xs ++ (x ∷ ys)) ≡ Some x
  mid_found xs ys x e = entry_append (key x) xs (x ∷ ys) ∙ rw (e, eq-eqb (key x) (key x) refl) refl

  -- other keys find what they find without it
  pub mid_other : (xs ys : List X) (x : X) (u : ℕ) → u ≢ key x → entry_of key u (xs ++ (x ∷ ys)) ≡ entry_of key u (xs ++ ys)
  mid_other xs ys x u n = entry_append u xs (x ∷ ys) ∙ (rw (ne_eqb (key x) u (λ e. n (sym e))) (sym (entry_append u xs ys)))

  -- an entry of a new key may stand in the middle
  pub mid_distinct : (xs ys : List X) (x : X) → entry_of key (key x) xs ≡ None → entry_of key (key x) ys ≡ None → Distinct key (xs ++ ys) → Distinct key (xs ++ (x ∷ ys))
  mid_distinct [] ys x e f d = (f, d)
  mid_distinct (z ∷ zs) ys x e f d =
      let n = not_first z (key x) (eqb (key z) (key x)) (entry_of key (key x) zs) refl e in
      (mid_other zs ys x (key z) n.0 ∙ d.0, mid_distinct zs ys x n.1 f d.1)

  around_step : (sought : ℕ) (x o : X) (xs : List X) (b : Bool) → eqb (key x) sought ≡ b → cond b (Some x) (entry_of key sought xs) ≡ Some o → (entry_of key sought xs ≡ Some o → Around key sought xs o) → Around key sought (x ∷ xs) o
  around_step sought x o xs true e h rest =
      let z : x ≡ o = cc in
      record {
        before = [];
        after = xs;
        whole = ap (λ y. y ∷ xs) z;
        has = ap key (sym z) ∙ eqb-true (key x) sought e;
        first = refl;
        left = rw e refl;
        altered_so = λ alter. rw e (ap (λ y. alter y ∷ xs) z);
      }
  around_step sought x o xs false e h rest =
      let r : Around key sought xs o = rest h in
      record {
        before = x ∷ r.before;
        after = r.after;
        whole = ap (λ ys. x ∷ ys) r.whole;
        has = r.has;
        first = rw e r.first;
        left = rw e (ap (λ ys. x ∷ ys) r.left);
        altered_so = λ alter. rw e (ap (λ ys. x ∷ ys) (r.altered_so alter));
      }

  -- what stands before and behind an entry that is found
  pub around : (sought : ℕ) (xs : List X) (o : X) → entry_of key sought xs ≡ Some o → Around key sought xs o
  around sought [] o e = absurd (none_some o e)
  around sought (x ∷ xs) o e = around_step sought x o xs (eqb (key x) sought) refl e (around sought xs o)

  module _ (sought : ℕ) (alter : X → X) (same : (x : X) → key (alter x) ≡ key x) where
    other_step : (x : X) (k : ℕ) (b : Bool) (xs rest : List X) → k ≢ sought → eqb (key x) sought ≡ b → entry_of key k rest ≡ entry_of key k xs → entry_of key k (cond b (alter x ∷ xs) (x ∷ rest)) ≡ cond (eqb (key x) k) (Some x) (entry_of key k xs)
    other_step x k true xs rest n e h =
        let is = eqb-true (key x) sought e in
        rw (ne_eqb (key x) k (λ z. n (sym z ∙ is)), ne_eqb (key (alter x)) k (λ z. n (sym z ∙ same x ∙ is))) refl
    other_step x k false xs rest n e h = ap (λ t. cond (eqb (key x) k) (Some x) t) h

    -- once the entry of a key was altered, other keys find what they found before
    pub altered_other : (k : ℕ) (xs : List X) → k ≢ sought → entry_of key k (altered key sought alter xs) ≡ entry_of key k xs
    altered_other k [] n = refl
    altered_other k (x ∷ xs) n = other_step x k (eqb (key x) sought) xs (altered key sought alter xs) n refl (altered_other k xs n)

    found_step : (x : X) (b : Bool) (xs rest : List X) → eqb (key x) sought ≡ b → entry_of key sought rest ≡ option_map alter (entry_of key sought xs) → entry_of key sought (cond b (alter x ∷ xs) (x ∷ rest)) ≡ option_map alter (cond b (Some x) (entry_of key sought xs))
    found_step x true xs rest e h = rw (eq-eqb (key (alter x)) sought (same x ∙ eqb-true (key x) sought e)) refl
    found_step x false xs rest e h = rw e h

    -- and that key finds the altered entry
    pub altered_found : (xs : List X) → entry_of key sought (altered key sought alter xs) ≡ option_map alter (entry_of key sought xs)
    altered_found [] = refl
    altered_found (x ∷ xs) = found_step x (eqb (key x) sought) xs (altered key sought alter xs) refl (altered_found xs)

    altered_none : (k : ℕ) (xs : List X) → entry_of key k xs ≡ None → entry_of key k (altered key sought alter xs) ≡ None
    altered_none k xs e =
        ⊎_elim
        (λ is. ap (λ j. entry_of key j (altered key sought alter xs)) is ∙ altered_found xs ∙ ap (λ j. option_map alter (entry_of key j xs)) (sym is) ∙ ap (option_map alter) e)
        (λ n. altered_other k xs n ∙ e)
        (cases_eq k sought)

    altered_step : (x : X) (b : Bool) (xs : List X) → entry_of key (key x) xs ≡ None → Distinct key xs → Distinct key (altered key sought alter xs) → Distinct key (cond b (alter x ∷ xs) (x ∷ altered key sought alter xs))
    altered_step x true xs e d r = (ap (λ k. entry_of key k xs) (same x) ∙ e, d)
    altered_step x false xs e d r = (altered_none (key x) xs e, r)

    -- still no two entries have one key
    pub distinct_altered : (xs : List X) → Distinct key xs → Distinct key (altered key sought alter xs)
    distinct_altered [] d = tt
    distinct_altered (x ∷ xs) d = altered_step x (eqb (key x) sought) xs d.0 d.1 (distinct_altered xs d.1)

  -- the weight after an entry was altered
  pub total_altered : (weight : X → ℕ) (sought : ℕ) (alter : X → X) (xs : List X) (o : X) → entry_of key sought xs ≡ Some o → total weight (altered key sought alter xs) + weight o ≡ total weight xs + weight (alter o)
  total_altered weight sought alter xs o e =
      let a : Around key sought xs o = around sought xs o e in
      let was : total weight xs ≡ total weight a.before + (weight o + total weight a.after) = ap (total weight) a.whole ∙ total_append weight a.before (o ∷ a.after) in
      let is : total weight (altered key sought alter xs) ≡ total weight a.before + (weight (alter o) + total weight a.after) = ap (total weight) (a.altered_so alter) ∙ total_append weight a.before (alter o ∷ a.after) in
      omega arith

  -- and after it was taken out
  pub total_without : (weight : X → ℕ) (sought : ℕ) (xs : List X) (o : X) → entry_of key sought xs ≡ Some o → total weight (without key sought xs) + weight o ≡ total weight xs
  total_without weight sought xs o e =
      let a : Around key sought xs o = around sought xs o e in
      let was : total weight xs ≡ total weight a.before + (weight o + total weight a.after) = ap (total weight) a.whole ∙ total_append weight a.before (o ∷ a.after) in
      let is : total weight (without key sought xs) ≡ total weight a.before + total weight a.after = ap (total weight) a.left ∙ total_append weight a.before a.after in
      omega arith

  times_none_step : (x : X) (b : Bool) (n : ℕ) (t : Option X) → cond b 1 0 + n ≡ 0 → (n ≡ 0 → t ≡ None) → cond b (Some x) t ≡ None
  times_none_step x true n t e h = absurd (omega arith)
  times_none_step x false n t e h = h (omega arith)

  -- a key that stands nowhere finds nothing
  pub times_none : (k : ℕ) (xs : List X) → times key k xs ≡ 0 → entry_of key k xs ≡ None
  times_none k [] e = refl
  times_none k (x ∷ xs) e = times_none_step x (eqb (key x) k) (times key k xs) (entry_of key k xs) e (times_none k xs)

  none_times_step : (x : X) (b : Bool) (n : ℕ) (t : Option X) → cond b (Some x) t ≡ None → (t ≡ None → n ≡ 0) → cond b 1 0 + n ≡ 0
  none_times_step x true n t e h = absurd (none_some x (sym e))
  none_times_step x false n t e h = let z = h e in omega arith

  -- and one that finds nothing stands nowhere
  pub none_times : (k : ℕ) (xs : List X) → entry_of key k xs ≡ None → times key k xs ≡ 0
  none_times k [] e = refl
  none_times k (x ∷ xs) e = none_times_step x (eqb (key x) k) (times key k xs) (entry_of key k xs) e (none_times k xs)

  distinct_times_step : (x : X) (k : ℕ) (xs : List X) (b : Bool) → eqb (key x) k ≡ b → entry_of key (key x) xs ≡ None → times key k xs ≤ 1 → cond b 1 0 + times key k xs ≤ 1
  distinct_times_step x k xs true e d r =
      let none : times key k xs ≡ 0 = none_times k xs (ap (λ j. entry_of key j xs) (sym (eqb-true (key x) k e)) ∙ d) in
      omega arith
  distinct_times_step x k xs false e d r = omega (arith, r)

  -- where no two entries have one key, each key stands once at most
  pub distinct_times : (xs : List X) → Distinct key xs → (k : ℕ) → times key k xs ≤ 1
  distinct_times [] d k = omega arith
  distinct_times (x ∷ xs) d k = distinct_times_step x k xs (eqb (key x) k) refl d.0 (distinct_times xs d.1 k)

  -- and the other way round
  pub times_distinct : (xs : List X) → ((k : ℕ) → times key k xs ≤ 1) → Distinct key xs
  times_distinct [] h = tt
  times_distinct (x ∷ xs) h =
      let one : ◌≡◌ {A = ℕ} (cond (eqb (key x) (key x)) 1 0) 1 = rw (eq-eqb (key x) (key x) refl) refl in
      let here = h (key x) in
      (times_none (key x) xs (omega arith), times_distinct xs (λ k. let most = h k in omega arith))

  -- a list of four parts, in which each key stands so often
  times_parts : (k : ℕ) (r a c b : List X) → times key k (r ++ (a ++ (c ++ b))) ≡ times key k r + (times key k a + (times key k c + times key k b))
  times_parts k r a c b =
      let w : X → ℕ = λ x. cond (eqb (key x) k) 1 0 in
      let u = total_append w r (a ++ (c ++ b)) in
      let v = total_append w a (c ++ b) in
      let z = total_append w c b in
      omega arith

  times_moved : (k : ℕ) (r a c b : List X) → times key k ((r ++ c) ++ (a ++ b)) ≡ times key k r + (times key k a + (times key k c + times key k b))
  times_moved k r a c b =
      let w : X → ℕ = λ x. cond (eqb (key x) k) 1 0 in
      let u = total_append w (r ++ c) (a ++ b) in
      let v = total_append w r c in
      let z = total_append w a b in
      omega arith

  one_apart : (k : ℕ) (r a c b : List X) → Distinct key (r ++ (a ++ (c ++ b))) → (entry_of key k a ≡ None) ⊎ (entry_of key k c ≡ None)
  one_apart k r a c b d =
      let parts = times_parts k r a c b in
      let most = distinct_times (r ++ (a ++ (c ++ b))) d k in
      ⊎_elim (λ e. inl (times_none k a e)) (λ n. inr (times_none k c (omega arith))) (cases_eq (times key k a) 0)

  -- a part moved forward: the same entries are found
  pub moved_up_found : (r a c b : List X) → Distinct key (r ++ (a ++ (c ++ b))) → (k : ℕ) → entry_of key k ((r ++ c) ++ (a ++ b)) ≡ entry_of key k (r ++ (a ++ (c ++ b)))
  moved_up_found r a c b d k =
      let e : X → Bool = λ x. eqb (key x) k in
      let left : find e ((r ++ c) ++ (a ++ b)) ≡ option_or (option_or (find e r) (find e c)) (option_or (find e a) (find e b)) = find-append e (r ++ c) (a ++ b) ∙ ap (λ t. option_or t (find e (a ++ b))) (find-append e r c) ∙ ap (λ t. option_or (option_or (find e r) (find e c)) t) (find-append e a b) in
      let right : find e (r ++ (a ++ (c ++ b))) ≡ option_or (find e r) (option_or (find e a) (option_or (find e c) (find e b))) = find-append e r (a ++ (c ++ b)) ∙ ap (λ t. option_or (find e r) t) (find-append e a (c ++ b) ∙ ap (λ t. option_or (find e a) t) (find-append e c b)) in
      left ∙ swapped (find e r) (find e a) (find e c) (find e b) (one_apart k r a c b d) ∙ sym right

  -- and still no two entries have one key
  pub moved_up_distinct : (r a c b : List X) → Distinct key (r ++ (a ++ (c ++ b))) → Distinct key ((r ++ c) ++ (a ++ b))
  moved_up_distinct r a c b d =
      times_distinct ((r ++ c) ++ (a ++ b)) (λ k.
      let parts = times_parts k r a c b in
      let now = times_moved k r a c b in
      let most = distinct_times (r ++ (a ++ (c ++ b))) d k in
      omega arith)

  own_step : (x o : X) (xs : List X) (b : Bool) → eqb (key x) (key o) ≡ b → entry_of key (key x) xs ≡ None → entry_of key (key o) xs ≡ Some o → cond b (Some x) (entry_of key (key o) xs) ≡ Some o
  own_step x o xs true e h r = absurd (none_some o (sym h ∙ ap (λ k. entry_of key k xs) (eqb-true (key x) (key o) e) ∙ r))
  own_step x o xs false e h r = r

  module _ (p : X → Bool) where
    found_entry_step : (x o : X) (xs : List X) (b : Bool) → p x ≡ b → entry_of key (key x) xs ≡ None → cond b (Some x) (find p xs) ≡ Some o → (find p xs ≡ Some o → (p o ≡ true) × (entry_of key (key o) xs ≡ Some o)) → (p o ≡ true) × (cond (eqb (key x) (key o)) (Some x) (entry_of key (key o) xs) ≡ Some o)
    found_entry_step x o xs true e d h rest =
        let z : x ≡ o = cc in
        (ap p (sym z) ∙ e, rw (eq-eqb (key x) (key o) (ap key z)) h)
    found_entry_step x o xs false e d h rest = let r = rest h in (r.0, own_step x o xs (eqb (key x) (key o)) refl d r.1)

    -- the first entry that passes a test passes it, and is found by its own key
    pub found_is_entry : (xs : List X) (o : X) → Distinct key xs → find p xs ≡ Some o → (p o ≡ true) × (entry_of key (key o) xs ≡ Some o)
    found_is_entry [] o d e = absurd (none_some o e)
    found_is_entry (x ∷ xs) o d e = found_entry_step x o xs (p x) refl d.0 e (found_is_entry xs o d.1)

    found_none_at : (x o : X) (xs : List X) (k : ℕ) (c : Bool) → p x ≡ false → cond c (Some x) (entry_of key k xs) ≡ Some o → (entry_of key k xs ≡ Some o → p o ≡ false) → p o ≡ false
    found_none_at x o xs k true e f rest = let z : x ≡ o = cc in ap p (sym z) ∙ e
    found_none_at x o xs k false e f rest = rest f

    found_none_step : (x o : X) (xs : List X) (k : ℕ) (b : Bool) → p x ≡ b → cond b (Some x) (find p xs) ≡ None → cond (eqb (key x) k) (Some x) (entry_of key k xs) ≡ Some o → (find p xs ≡ None → entry_of key k xs ≡ Some o → p o ≡ false) → p o ≡ false
    found_none_step x o xs k true e h f rest = absurd (none_some x (sym h))
    found_none_step x o xs k false e h f rest = found_none_at x o xs k (eqb (key x) k) e f (rest h)

    -- where none passes a test, no entry that is found does
    pub found_none : (xs : List X) → find p xs ≡ None → (k : ℕ) (o : X) → entry_of key k xs ≡ Some o → p o ≡ false
    found_none [] e k o f = absurd (none_some o f)
    found_none (x ∷ xs) e k o f = found_none_step x o xs k (p x) refl e f (λ h. found_none xs h k o)

    -- where an entry that is found passes a test, one that passes is found
    pub found_some : (xs : List X) (k : ℕ) (o : X) → p o ≡ true → entry_of key k xs ≡ Some o → (q : X) × (find p xs ≡ Some q)
    found_some xs k o t e = go (find p xs) refl
      where
        go : (r : Option X) → find p xs ≡ r → (q : X) × (r ≡ Some q)
        go (Some q) f = (q, refl)
        go None f = absurd (let z : true ≡ false = sym t ∙ found_none xs f k o e in let y : ◌≡◌ {A = ℕ} 0 1 = cc in omega arith)
