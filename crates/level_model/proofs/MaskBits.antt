-- a mask is made bit by bit, from the highest down
use Rattle.std.proofs.Common.{◌≡◌, ℕ, suc, ◌+◌, ◌*◌, ◌%◌, ◌^◌, ◌<◌, ◌≤◌, Bool, true, false, cond, List, [], ◌∷◌, ◌++◌, length, not, bit_or, sym, refl, ap, ◌∙◌, arith, pow_mono}
use Rattle.std.proofs.lemmas.Grind.{or_after_shift}
use Rattle.std.proofs.lemmas.List.{append_assoc, length-append}
use Rattle.level_model.specs.Ways.{is_reserved, unreserved}
use Rattle.level_model.specs.declared.ways.Way.{Way}

-- so many bits make a number below a power of two
pub mask_small : (ws : List Way) → unreserved ws < 2 ^ length ws
mask_small [] = omega arith
mask_small (w ∷ ws) = step (not (is_reserved w)) (unreserved ws) (length ws) (mask_small ws)
  where
    step : (b : Bool) (m n : ℕ) → m < 2 ^ n → cond b 1 0 + 2 * m < 2 ^ suc n
    step true m n h = omega arith
    step false m n h = omega arith

bit_small : (b : Bool) → cond b 1 0 < 2
bit_small true = omega arith
bit_small false = omega arith

-- one way more is seen in front of those that were
pub seen_more : (old new seen row : List Way) (way : Way) (mask bit : ℕ) → old ≡ new ++ (way ∷ []) → old ++ seen ≡ row → mask ≡ unreserved seen → length row ≤ 8 → bit ≡ cond (not (is_reserved way)) 1 0 → (new ++ (way ∷ seen) ≡ row) × (bit_or (mask * 2 % 256) bit ≡ unreserved (way ∷ seen))
seen_more old new seen row way mask bit front whole is few b =
    let all : new ++ (way ∷ seen) ≡ row = sym (append_assoc new (way ∷ []) seen) ∙ ap (λ xs. xs ++ seen) (sym front) ∙ whole in
    let long : length new + suc (length seen) ≡ length row = sym (length-append new (way ∷ seen)) ∙ ap length all in
    let small : unreserved seen < 128 = omega (arith, mask_small seen, pow_mono {i = length seen} {j = 7} (omega arith)) in
    let bits : bit_or (mask * 2 % 256) bit ≡ mask * 2 + bit = or_after_shift mask 2 256 bit refl (rw b (bit_small (not (is_reserved way)))) (omega arith) in
    (all, bits ∙ (rw (b, is) (add (cond (not (is_reserved way)) 1 0) (unreserved seen))))
  where
    add : (x m : ℕ) → m * 2 + x ≡ x + 2 * m
    add x m = omega arith
