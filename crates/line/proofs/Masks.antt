-- the bits of the mask of a value
use Rattle.std.proofs.Common.{◌≡◌, ℕ, ◌+◌, ◌-◌, ◌*◌, ◌/◌, ◌%◌, ◌^◌, ◌<◌, ◌≤◌, false, eqb, ap, ◌∙◌, arith, pow_mono, pow_pos, shl_exact}
use lib.Pow.{ones_lt}
use native.Mathlib.Nat.{div-eq_of_lt}
use Rattle.line.specs.Laid.{bit}
use Rattle.line.specs.Values.{covers, value_mask}
use Rattle.std.proofs.lemmas.Bool.Decides.{nat_tests}
use Rattle.std.proofs.lemmas.Nat.Bits.{bit_at-zero, bit_at_ones, bit_at_ones_above, bit_at_cat_low, bit_at_cat_high, ones_shr}

-- a mask of so many bits has none from there up
pub no_high_bit : (width mask i : ℕ) → mask < 2 ^ width → width ≤ i → bit mask i ≡ false
no_high_bit width mask i small high =
    let below : mask < 2 ^ i = omega (arith, pow_mono {i = width} {j = i} high) in
    ap (λ n. eqb (n % 2) 1) (div-eq_of_lt below)

-- bit i of a value's mask is 1 exactly where byte i is one of the value's
pub value_mask_bits : (offset size i : ℕ) → bit (value_mask offset size) i ≡ covers offset size i
value_mask_bits offset size i =
    grind (arith, nat_tests, pow_pos, bit_at_cat_low (2 ^ size - 1) offset 0 i, bit_at_cat_high (2 ^ size - 1) offset 0 i, bit_at-zero, bit_at_ones, bit_at_ones_above)

-- as many ones as size, by a shift to the right, and then to the left
pub shifted_mask : (offset size : ℕ) → offset + size ≤ 16 → (65535 / 2 ^ (16 - size) * 2 ^ offset) % 65536 ≡ value_mask offset size
shifted_mask offset size h =
    let all : 16 - (16 - size) ≡ size = omega arith in
    let right : 65535 / 2 ^ (16 - size) ≡ 2 ^ size - 1 = ones_shr 16 (16 - size) (omega arith) ∙ ap (λ n. 2 ^ n - 1) all in
    ap (λ n. (n * 2 ^ offset) % 65536) right ∙ shl_exact size offset 16 (ones_lt size) (omega arith)
