-- numbers that are written one behind the other, each behind a space
use Rattle.std.proofs.Common.{◌≡◌, ℕ, zero, suc, ◌+◌, ◌*◌, ◌<◌, ◌≤◌, List, [], ◌∷◌, ◌++◌, length, take, get_or, decimal, sym, refl, ap, ◌∙◌, arith}
use Rattle.std.specs.List.{flat_map}
use Rattle.std.proofs.lemmas.Grind.{flat_map-append}
use Rattle.std.proofs.lemmas.List.{append-nil, length-append}
use Rattle.player.proofs.Put.{buffer_with, put_behind}
use Rattle.player.specs.Lines.{field}

-- the letter and the first of the numbers stand at the front of a buffer
pub record Written (old : List ℕ) (letter : ℕ) (numbers : List ℕ) (i written : ℕ) (now : List ℕ) : Type 0 where
  pub at : written ≡ 1 + length (flat_map field (take i numbers))
  pub short : written ≤ 1 + 21 * i
  pub buffer : now ≡ buffer_with 0 (letter ∷ flat_map field (take i numbers)) old

-- one element more is taken
take_more : (xs : List ℕ) (i d : ℕ) → i < length xs → take (i + 1) xs ≡ take i xs ++ (get_or xs i d ∷ [])
take_more [] i d within = absurd (omega arith)
take_more (x ∷ xs) zero d within = refl
take_more (x ∷ xs) (suc i) d within =
    let e : suc i + 1 ≡ suc (i + 1) = omega arith in
    ap (λ n. take n (x ∷ xs)) e ∙ ap (λ ys. x ∷ ys) (take_more xs i d (omega arith))

-- one number more
pub written_more : (old : List ℕ) (letter : ℕ) (numbers : List ℕ) (i w d : ℕ) (now mid new digits : List ℕ) (m v : ℕ) → i < length numbers → 1 + 21 * i ≤ length old → Written old letter numbers i w now → m ≡ w + 1 → mid ≡ buffer_with w (32 ∷ []) now → v ≡ m + length digits → new ≡ buffer_with m digits mid → digits ≡ decimal (get_or numbers i d) → length digits ≤ 20 → w + 1 ≤ length now → Written old letter numbers (i + 1) v new
written_more old letter numbers i w d now mid new digits m v within room written space first at second is short fits =
    let front : List ℕ = letter ∷ flat_map field (take i numbers) in
    let digit : field (get_or numbers i d) ≡ 32 ∷ digits = ap (λ xs. 32 ∷ xs) (sym is) in
    let more : flat_map field (take (i + 1) numbers) ≡ flat_map field (take i numbers) ++ (32 ∷ digits) =
    ap (flat_map field) (take_more numbers i d within)
    ∙ flat_map-append field (take i numbers) (get_or numbers i d ∷ [])
    ∙ ap (λ xs. flat_map field (take i numbers) ++ xs) (append-nil (field (get_or numbers i d)) ∙ digit) in
    let long : length (flat_map field (take (i + 1) numbers)) ≡ length (flat_map field (take i numbers)) + suc (length digits) = ap length more ∙ length-append (flat_map field (take i numbers)) (32 ∷ digits) in
    let both : new ≡ buffer_with w ((32 ∷ []) ++ digits) now = put_behind w m (32 ∷ []) digits now mid new fits space first second in
    let l : length front ≡ w = (let p = written.at in let q : length front ≡ suc (length (flat_map field (take i numbers))) = refl in omega arith) in
    let at_front : w ≡ 0 + length front = omega arith in
    let all : new ≡ buffer_with 0 (front ++ (32 ∷ digits)) old =
    put_behind 0 w front (32 ∷ digits) old now new (let p = written.short in omega arith) at_front written.buffer both in
    record {
      at = let p = written.at in omega arith;
      short = let p = written.short in omega arith;
      buffer = all ∙ ap (λ xs. buffer_with 0 (letter ∷ xs) old) (sym more);
    }
