-- a value as bytes of a line, and back
use Rattle.std.proofs.Common.{◌≡◌, ℕ, zero, suc, ◌+◌, ◌-◌, ◌*◌, ◌/◌, ◌%◌, ◌^◌, ◌<◌, ◌≤◌, List, ◌∷◌, length, get_or, take, drop, replicate, refl, ap, ◌∙◌, arith, shr_lt}
use borrow.Rule.Slice.PartMut.{put_mid}
use Rattle.line.proofs.Lines.{length-laid, get_or-laid}
use Rattle.line.proofs.Masks.{value_mask_bits}
use Rattle.line.specs.Laid.{laid}
use Rattle.line.specs.Values.{low_bytes, number_of, value_mask, value_bytes, value_in}
use Rattle.std.proofs.lemmas.List.{length-replicate, length-take, length-drop, get_or_append_left, get_or-append_right, get_or-take, get_or-drop, take-replicate, drop-replicate}
use Rattle.std.proofs.lemmas.Grind.{same_number_lists}
use Rattle.std.proofs.lemmas.Bool.Decides.{nat_tests}

pub length_low : (n v : ℕ) → length (low_bytes n v) ≡ n
length_low zero v = refl
length_low (suc n) v = ap suc (length_low n (v / 256))

-- fewer of the lowest bytes
pub take_low : (m n v : ℕ) → m ≤ n → take m (low_bytes n v) ≡ low_bytes m v
take_low zero n v h = refl
take_low (suc m) zero v h = absurd (omega arith)
take_low (suc m) (suc n) v h = ap (λ bs. v % 256 ∷ bs) (take_low m n (v / 256) (omega arith))

-- the bytes of a value that fits give it back
pub number_low : (n v : ℕ) → v < 2 ^ (8 * n) → number_of (low_bytes n v) ≡ v
number_low zero v h = omega arith
number_low (suc n) v h =
    let wide : 8 * suc n ≡ 8 * n + 8 = omega arith in
    let rest : number_of (low_bytes n (v / 256)) ≡ v / 256 = number_low n (v / 256) (shr_lt (8 * n) 8 (rw (← wide) h)) in
    omega (arith, rest)

-- the lowest bytes of a value, copied to their offset in a line of zeros
pub copied : (p s v : ℕ) (low part : List ℕ) → p + s ≤ 16 → s ≤ 8 → low ≡ low_bytes 8 v → part ≡ take (s - 0) low → put_mid p ((p + s) - p) (replicate 16 0) part ≡ value_bytes p s v
copied p s v low part h small is copy =
    let same : s - 0 ≡ s = omega arith in
    let k : (p + s) - p ≡ s = omega arith in
    let bytes : part ≡ low_bytes s v = rw (copy, same, is) (take_low s 8 v small) in
    let before : take p (replicate {A = ℕ} 16 0) ≡ replicate p 0 = take-replicate p 16 0 (omega arith) in
    let rest : 16 - p - s ≡ 16 - (p + s) = omega arith in
    rw (k, bytes, before) (simp (drop-replicate, rest))

module _ (p s v : ℕ) (line : List ℕ) (h : p + s ≤ 16) (whole : length line ≡ 16) where
  -- byte p + k of the line that a value was laid on is byte k of the value
  laid_byte : (k : ℕ) → k < s → get_or (laid line (value_mask p s) (value_bytes p s v)) (p + k) 0 ≡ get_or (low_bytes s v) k 0
  laid_byte k below = grind (arith, nat_tests, get_or-laid, value_mask_bits, get_or-append_right, length-replicate, get_or_append_left, length_low)

  laid_bytes : take s (drop p (laid line (value_mask p s) (value_bytes p s v))) ≡ low_bytes s v
  laid_bytes =
      same_number_lists (take s (drop p (laid line (value_mask p s) (value_bytes p s v)))) (low_bytes s v)
      (grind (arith, length-take {A = ℕ}, length-drop {A = ℕ}, length-laid, length_low))
      (λ k below. grind (arith, length-take {A = ℕ}, get_or-take, get_or-drop, laid_byte k))

  -- a value that was laid on a line is read back from it
  pub laid_back : v < 2 ^ (8 * s) → value_in p s (laid line (value_mask p s) (value_bytes p s v)) ≡ v
  laid_back fits = ap number_of laid_bytes ∙ number_low s v fits
