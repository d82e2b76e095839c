use Rattle.std.proofs.Common.{◌≡◌, ℕ, List, [], ◌∷◌, ◌++◌, ◌+◌, Ok, refl, subst, map, ap, ◌∙◌}
use Rattle.std.specs.Borrow.{Bor}
use Rattle.std.specs.List.{enumerate_from}
use Rattle.calls.specs.Lists.{Lists, AddsLine, AddsLines}

-- a line and its number
abbrev pub Numbered : Type 0
Numbered = ℕ × Bor (List ℕ)

-- the texts of lines
abbrev pub texts : List Numbered → List (List ℕ)
texts numbered = map (λ (x : Numbered). x.1.now) numbered

-- one more line, behind those that were taken
pub AddsLines-push : (xs : List Numbered) (x : Numbered) (a b c : Lists) → AddsLines (texts xs) a b → AddsLine x.1.now b (Ok tt) c → AddsLines (texts (xs ++ x ∷ [])) a c
AddsLines-push [] x a b c same h =
    let P : Lists → Type 0 = λ y. AddsLine x.1.now y (Ok tt) c in
    (c, subst P same h, refl)
AddsLines-push (y ∷ ys) x a b c (mid, first, rest) h = (mid, first, AddsLines-push ys x mid b c rest h)

-- the second parts of what `enumerate` gives
seconds : (n : ℕ) (xs : List (List ℕ)) → map (λ (x : ℕ × List ℕ). x.1) (enumerate_from n xs) ≡ xs
seconds n [] = refl
seconds n (x ∷ xs) = ap (λ ys. x ∷ ys) (seconds (n + 1) xs)

-- the texts are the second parts of the numbered texts
texts-pairs : (xs : List Numbered) → texts xs ≡ map (λ (x : ℕ × List ℕ). x.1) (map (λ (x : Numbered). (x.0, x.1.now)) xs)
texts-pairs [] = refl
texts-pairs (x ∷ xs) = ap (λ ys. x.1.now ∷ ys) (texts-pairs xs)

-- the texts of lines that were numbered from 0 are the lines
pub texts-enumerate : (xs : List Numbered) (lines : List (List ℕ)) → map (λ (x : Numbered). (x.0, x.1.now)) xs ≡ enumerate_from 0 lines → texts xs ≡ lines
texts-enumerate xs lines e = texts-pairs xs ∙ ap (λ ys. map (λ (x : ℕ × List ℕ). x.1) ys) e ∙ seconds 0 lines
