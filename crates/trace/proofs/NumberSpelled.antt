-- a number written reads back as itself, and one read is written as the same bytes
use Rattle.std.proofs.Common.{◌≡◌, ℕ, zero, suc, ◌+◌, ◌-◌, ◌*◌, ◌/◌, ◌%◌, ◌^◌, ◌<◌, ◌≤◌, Bool, true, false, cond, ◌&&◌, ltb, leb, List, [], ◌∷◌, ◌++◌, get_or, Some, None, sym, refl, ap, ◌∙◌, subst, arith}
use Rattle.std.proofs.lemmas.Bool.{lt-ltb, le-ltb, ltb-true, ltb-false, le-leb, leb-true, and_parts, and_from}
use Rattle.trace.specs.declared.refusal.Refusal.{Refusal}
use Rattle.trace.specs.Limits.{highest_number}
use Rattle.trace.specs.Parsed.{Parsed, Took, Refuses, and_then}
use Rattle.trace.specs.Numbers.{number, or_refused, below, groups, spelled, within}
use Rattle.trace.proofs.NumberRead.{one_group, more_groups, below_taken}

-- every element is a byte
abbrev pub Bytes : List ℕ → Type 0
Bytes bs = (k : ℕ) → get_or bs k 0 < 256

pub bytes_after : (xs ys : List ℕ) → Bytes (xs ++ ys) → Bytes ys
bytes_after [] ys h = h
bytes_after (x ∷ xs) ys h = bytes_after xs ys (λ k. h (suc k))

pub took_value : {X : Type 0} {x y : X} {m r : List ℕ} → Took x m ≡ Took y r → x ≡ y
took_value e = cc

pub took_rest : {X : Type 0} {x y : X} {m r : List ℕ} → Took x m ≡ Took y r → m ≡ r
took_rest e = cc

-- what holds of what was taken holds of it under its other names
pub took_as : {X : Type 0} {x y : X} {m r : List ℕ} (P : X → List ℕ → Type 0) → Took x m ≡ Took y r → P x m → P y r
took_as {X} {x} {y} {m} {r} P e h = subst (λ z. P z r) (took_value e) (subst (λ l. P x l) (took_rest e) h)

pub never : {X : Type 0} {q : Refusal} {x : X} {r : List ℕ} → Refuses q ≡ Took x r → ⊥
never e = let z : ◌≡◌ {A = ℕ} 0 1 = cc in omega arith

-- the numbers below this need at most so many groups after the first
abbrev pub reach : ℕ → ℕ
reach zero = 128
reach (suc k) = reach k * 128

pub groups_one : (k n : ℕ) → n < 128 → groups k n ≡ n ∷ []
groups_one zero n h = refl
groups_one (suc k) n h = rw (lt-ltb n 128 h)

pub groups_more : (k n : ℕ) → 128 ≤ n → groups (suc k) n ≡ (n % 128 + 128) ∷ groups k (n / 128)
groups_more k n h = rw (le-ltb n 128 h)

groups_read : (k n : ℕ) (rest : List ℕ) → n < 2 ^ 64 → n < reach k → number (groups k n ++ rest) ≡ Took n rest
groups_read zero n rest f h = one_group n rest h
groups_read (suc k) n rest f h = go (ltb n 128) refl (groups_read k (n / 128) rest (omega arith) (omega arith))
  where
    go : (b : Bool) → ltb n 128 ≡ b → number (groups k (n / 128) ++ rest) ≡ Took (n / 128) rest → number (groups (suc k) n ++ rest) ≡ Took n rest
    go true e ih = ap (λ l. number (l ++ rest)) (groups_one (suc k) n (ltb-true n 128 e)) ∙ one_group n rest (ltb-true n 128 e)
    go false e ih =
        let large : 128 ≤ n = ltb-false n 128 e in
        let same : n / 128 * 128 + (n % 128 + 128 - 128) ≡ n = omega arith in
        ap (λ l. number (l ++ rest)) (groups_more k n large)
        ∙ more_groups (n % 128 + 128) (groups k (n / 128) ++ rest) (omega arith)
        ∙ ap (λ p. and_then p (below (n % 128 + 128 - 128))) ih
        ∙ below_taken (n % 128 + 128 - 128) (n / 128) rest (omega arith) (omega arith)
        ∙ ap (λ m. Took m rest) same

pub number_spelled : (n : ℕ) (rest : List ℕ) → n < 2 ^ 64 → number (spelled n ++ rest) ≡ Took n rest
number_spelled n rest h = groups_read 9 n rest h (omega arith)

-- what a group adds, where it was taken
below_was : (low high : ℕ) (mid : List ℕ) (n : ℕ) (rest : List ℕ) → below low high mid ≡ Took n rest → (0 < high) × (high * 128 + low ≤ highest_number) × (high * 128 + low ≡ n) × (mid ≡ rest)
below_was low high mid n rest e = go (ltb 0 high && leb (high * 128 + low) highest_number) refl e
  where
    go : (b : Bool) → (ltb 0 high && leb (high * 128 + low) highest_number) ≡ b → or_refused (cond b (Some (high * 128 + low)) None) mid ≡ Took n rest → (0 < high) × (high * 128 + low ≤ highest_number) × (high * 128 + low ≡ n) × (mid ≡ rest)
    go true t e = (ltb-true 0 high (and_parts (ltb 0 high) (leb (high * 128 + low) highest_number) t).0, leb-true (high * 128 + low) highest_number (and_parts (ltb 0 high) (leb (high * 128 + low) highest_number) t).1, took_value e, took_rest e)
    go false t e = absurd (never e)

-- the bytes before what is left are those of the number
record IsSpelled (bs : List ℕ) (n : ℕ) (rest : List ℕ) : Type 0 where
  fits : n < 2 ^ 64
  is : (k : ℕ) → n < reach k → bs ≡ groups k n ++ rest

written_more : (b high : ℕ) (bs : List ℕ) (n : ℕ) (rest : List ℕ) → 128 ≤ b → b < 256 → 0 < high → high * 128 + (b - 128) ≤ highest_number → high * 128 + (b - 128) ≡ n → IsSpelled bs high rest → IsSpelled (b ∷ bs) n rest
written_more b high bs n rest l u p s e w = record { fits = omega arith; is = at }
  where
    at : (k : ℕ) → n < reach k → b ∷ bs ≡ groups k n ++ rest
    at zero h = absurd (omega arith)
    at (suc k) h =
        let above : n / 128 ≡ high = omega arith in
        let low : n % 128 + 128 ≡ b = omega arith in
        let front : bs ≡ groups k high ++ rest = w.is k (omega arith) in
        sym (ap (λ l. l ++ rest) (groups_more k n (omega arith)) ∙ ap (λ m. m ∷ (groups k (n / 128) ++ rest)) low ∙ ap (λ m. b ∷ (groups k m ++ rest)) above ∙ ap (λ l. b ∷ l) (sym front))

number_was : (bs : List ℕ) (n : ℕ) (rest : List ℕ) → Bytes bs → number bs ≡ Took n rest → IsSpelled bs n rest
number_was [] n rest h e = absurd (never e)
number_was (b ∷ bs) n rest h e = go (ltb b 128) refl e (number bs) refl (λ m r. number_was bs m r (λ k. h (suc k)))
  where
    go : (t : Bool) → ltb b 128 ≡ t → cond t (Took b bs) (and_then (number bs) (below (b - 128))) ≡ Took n rest → (p : Parsed ℕ) → number bs ≡ p → ((m : ℕ) (r : List ℕ) → number bs ≡ Took m r → IsSpelled bs m r) → IsSpelled (b ∷ bs) n rest
    go true t e p q rec =
        let small : b < 128 = ltb-true b 128 t in
        took_as (λ m r. IsSpelled (b ∷ bs) m r) e (record { fits = omega arith; is = λ k l. ap (λ xs. xs ++ bs) (sym (groups_one k b small)) })
    go false t e (Refuses r) q rec = absurd (never (sym (ap (λ p. and_then p (below (b - 128))) q) ∙ e))
    go false t e (Took high mid) q rec =
        let w = below_was (b - 128) high mid n rest (sym (ap (λ p. and_then p (below (b - 128))) q) ∙ e) in
        written_more b high bs n rest (ltb-false b 128 t) (h 0) w.0 w.1 w.2 (subst (λ r. IsSpelled bs high r) w.3 (rec high mid q))

pub number_back : (bs : List ℕ) → Bytes bs → (n : ℕ) (rest : List ℕ) → number bs ≡ Took n rest → (bs ≡ spelled n ++ rest) × (within 0 highest_number n ≡ true)
number_back bs h n rest e =
    let w = number_was bs n rest h e in
    let f : n < 2 ^ 64 = w.fits in
    (w.is 9 (omega arith), and_from (leb 0 n) (leb n highest_number) (le-leb 0 n (omega arith)) (le-leb n highest_number (omega arith)))
