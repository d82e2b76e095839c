-- a number's bytes, one group after another
use Rattle.std.proofs.Common.{◌≡◌, ℕ, zero, suc, ◌+◌, ◌/◌, ◌%◌, ◌<◌, ◌≤◌, cond, ltb, List, [], ◌∷◌, ◌++◌, length, sym, ap, ◌∙◌, arith}
use Rattle.std.proofs.lemmas.Grind.{common_steps}
use Rattle.std.proofs.lemmas.List.{append_assoc, length-append}
use Rattle.trace.specs.Limits.{highest_number, longest_record}
use Rattle.trace.specs.Numbers.{groups, spelled}
use Rattle.trace.proofs.NumberSpelled.{reach, groups_one, groups_more}

-- a group to spare is not written
groups_spare : (k n : ℕ) → n < reach k → groups k n ≡ groups (suc k) n
groups_spare zero n h = sym (groups_one 1 n h)
groups_spare (suc k) n h = ap (λ l. cond (ltb n 128) (n ∷ []) ((n % 128 + 128) ∷ l)) (groups_spare k (n / 128) (omega arith))

spelled_large : (n : ℕ) → 128 ≤ n → n ≤ highest_number → spelled n ≡ (n % 128 + 128) ∷ spelled (n / 128)
spelled_large n h f = groups_more 8 n h ∙ ap (λ l. (n % 128 + 128) ∷ l) (groups_spare 8 (n / 128) (omega arith))

-- one group was pushed: what is still to come makes up the same bytes as before
pub group_pushed : (h : List ℕ) {g all : List ℕ} (n : ℕ) → 128 ≤ n → n ≤ highest_number → g ≡ h ++ (n % 128 + 128) ∷ [] → h ++ spelled n ≡ all → g ++ spelled (n / 128) ≡ all
group_pushed h n large fits pushed is =
    ap (λ l. l ++ spelled (n / 128)) pushed
    ∙ append_assoc h ((n % 128 + 128) ∷ []) (spelled (n / 128))
    ∙ ap (λ l. h ++ l) (sym (spelled_large n large fits))
    ∙ is

spelled_some : (n : ℕ) → 0 < length (spelled n)
spelled_some n = grind (arith, common_steps)

-- where bytes and what is still to come fit, there is room for what comes first
pub room_first : (h bytes all first rest : List ℕ) → h ++ (first ++ rest) ≡ bytes ++ all → length bytes + length all ≤ longest_record → length h + length first ≤ longest_record
room_first h bytes all first rest e fits = omega (arith, simp length-append at (ap length e))

pub room_one : (h bytes all : List ℕ) (n : ℕ) → h ++ spelled n ≡ bytes ++ all → length bytes + length all ≤ longest_record → length h < longest_record
room_one h bytes all n e fits = omega (arith, spelled_some n, simp length-append at (ap length e))
