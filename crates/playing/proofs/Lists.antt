-- lists with lines that are added, and numbers that leave a list
use Rattle.std.proofs.Common.{◌≡◌, ℕ, Bool, true, false, cond, eqb, List, [], ◌∷◌, ◌++◌, map, filter, is_some, Some, IsPermutation, sym, refl, ap, ap₂, ◌∙◌, subst, append_assoc, append-nil, eq-eqb, eqb-true}
use Rattle.std.proofs.lemmas.List.Elements.{filter-append}
use Rattle.std.proofs.lemmas.List.Sorted.{IsPermutation-refl, IsPermutation-trans, IsPermutation-cons, IsPermutation-append_left, IsPermutation-middle}
use Rattle.list.specs.Keyed.{entry_of, without}
use Rattle.port.proofs.Lists.{true_false}
use Rattle.port.specs.Promise.{has}

-- an element is added behind the second of two lists
pub permutation_grows : {X : Type 0} (all done left : List X) (x : X) → IsPermutation all (done ++ left) → IsPermutation (all ++ (x ∷ [])) (done ++ (left ++ (x ∷ [])))
permutation_grows all done left x whole = subst (IsPermutation (all ++ (x ∷ []))) (append_assoc done left (x ∷ [])) (IsPermutation-append_left (x ∷ []) all (done ++ left) whole)

-- numbers with one that is taken out of them, seen through any function
pub map_without_permutes : {X : Type 0} (f : ℕ → X) (numbers : List ℕ) (n : ℕ) → has n numbers ≡ true → IsPermutation (map f numbers) (f n ∷ map f (without (λ k. k) n numbers))
map_without_permutes f [] n e = absurd (true_false (sym e))
map_without_permutes f (x ∷ xs) n e = go (eqb x n) refl e (map_without_permutes f xs n)
  where
    go :
        (b : Bool) → eqb x n ≡ b → is_some (cond b (Some x) (entry_of (λ k. k) n xs)) ≡ true
        → (has n xs ≡ true → IsPermutation (map f xs) (f n ∷ map f (without (λ k. k) n xs)))
        → IsPermutation (f x ∷ map f xs) (f n ∷ map f (cond b xs (x ∷ without (λ k. k) n xs)))
    go true same there behind = subst (λ k. IsPermutation (f x ∷ map f xs) (f k ∷ map f xs)) (eqb-true x n same) (IsPermutation-refl (f x ∷ map f xs))
    go false other there behind = IsPermutation-trans _ _ _ (IsPermutation-cons (f x) _ _ (behind there)) (IsPermutation-middle (f x ∷ []) (f n) (map f (without (λ k. k) n xs)))

-- a list has the numbers that it had before one was put in front
has_behind : (x u : ℕ) (xs : List ℕ) → has u xs ≡ true → has u (x ∷ xs) ≡ true
has_behind x u xs e = go (eqb x u)
  where
    go : (b : Bool) → is_some (cond b (Some x) (entry_of (λ k. k) u xs)) ≡ true
    go true = refl
    go false = e

-- functions that agree on the numbers of a list give the same list
pub map_same : {X : Type 0} (f g : ℕ → X) (numbers : List ℕ) → ((u : ℕ) → has u numbers ≡ true → f u ≡ g u) → map f numbers ≡ map g numbers
map_same f g [] agree = refl
map_same f g (x ∷ xs) agree =
    let first : has x (x ∷ xs) ≡ true = rw (eq-eqb x x refl) refl in
    ap₂ (λ y ys. y ∷ ys) (agree x first) (map_same f g xs (λ u e. agree u (has_behind x u xs e)))

-- a filter keeps an element more that passes its test
pub filter_yes : {X : Type 0} (test : X → Bool) (xs : List X) (x : X) → test x ≡ true → filter test (xs ++ (x ∷ [])) ≡ filter test xs ++ (x ∷ [])
filter_yes test xs x e = filter-append test xs (x ∷ []) ∙ ap (λ b. filter test xs ++ cond b (x ∷ []) []) e

-- and drops one that does not
pub filter_no : {X : Type 0} (test : X → Bool) (xs : List X) (x : X) → test x ≡ false → filter test (xs ++ (x ∷ [])) ≡ filter test xs
filter_no test xs x e = filter-append test xs (x ∷ []) ∙ ap (λ b. filter test xs ++ cond b (x ∷ []) []) e ∙ append-nil (filter test xs)
