-- each field and each record: what is written reads back as itself, and what was read is written as the same bytes
use Rattle.std.proofs.Common.{◌≡◌, ℕ, zero, suc, ◌^◌, ◌<◌, ◌≤◌, Bool, true, false, cond, not, ◌&&◌, ◌||◌, eqb, leb, List, [], ◌∷◌, ◌++◌, length, take, drop, Some, None, Option, sym, refl, ap, ◌∙◌, subst, inl, inr, append_assoc, arith}
use Rattle.std.proofs.lemmas.Grind.{common_steps}
use Rattle.std.proofs.lemmas.List.{take-append-drop, take_at, drop_at, length-append, length-take-le, nil_from_length}
use Rattle.std.proofs.lemmas.Bool.{leb-true, le-leb, eqb-true, eqb-false, eq-eqb, cases_lt, and_parts, and_from, not-true, not_from_false, or_cases}
use Rattle.std.specs.List.{flat_map, list_all}
use Rattle.line.specs.Counts.{is_count}
use Rattle.memory.specs.Limits.{most_lines, most_bad_lines, longest_latency, longest_script}
use Rattle.trace.specs.Limits.{most_levels, highest_bad_line, highest_cause, largest_size, highest_address, highest_number, most_steps, longest_note}
use Rattle.trace.specs.declared.refusal.Refusal.{Refusal}
use Rattle.trace.specs.declared.refusal.Refusal.TheVariants.{Truncated, Limit, Misplaced}
use Rattle.trace.specs.declared.records.Rule.{Rule}
use Rattle.trace.specs.declared.records.Rule.TheVariants.{Lru, Fifo}
use Rattle.trace.specs.declared.records.Kind.{Kind}
use Rattle.trace.specs.declared.records.Level.{Level}
use Rattle.trace.specs.declared.records.Bottom.{Bottom}
use Rattle.trace.specs.declared.records.Bottom.TheVariants.{Ordered, Scripted}
use Rattle.memory.specs.declared.bad_line.BadLine.{BadLine}
use Rattle.trace.specs.declared.records.Setup.{Setup}
use Rattle.trace.specs.Parsed.{Parsed, Took, Refuses, and_then}
use Rattle.trace.specs.Kinds.{kind_number, kind_of, rule_number}
use Rattle.trace.specs.Numbers.{number, spelled, within, number_within}
use Rattle.trace.specs.Items.{Item, setup, load, store, pass, note}
use Rattle.list.specs.Zeros.{all_zero}
use Rattle.trace.specs.Decode.{plain, script, ordered, scripted, bottom, bad_line, bad_lines, side, rule_of, rule, level, upper, levels, setup_of, setup_fields, load_fields, store_fields, pass_fields, printable, text, note_fields, fields, record_of, decode}
use Rattle.trace.specs.Encode.{bottom_bytes, bad_line_bytes, level_bytes, levels_bytes, encode, bottom_in_limits, bad_line_in_limits, bad_lines_in_limits, level_in_limits, upper_in_limits, in_limits, is_setup}
use Rattle.trace.proofs.NumberSpelled.{Bytes, bytes_after, took_as, never, number_spelled, number_back}

-- what was read is written as the same bytes, and lies within its limits
abbrev pub Back : {X : Type 0} → (List ℕ → Parsed X) → (X → List ℕ) → (X → Bool) → Type 0
Back {X} p e ok = (bs : List ℕ) → Bytes bs → (x : X) (rest : List ℕ) → p bs ≡ Took x rest → (bs ≡ e x ++ rest) × (ok x ≡ true)

-- what is written reads back as itself
abbrev pub Forth : {X : Type 0} → (List ℕ → Parsed X) → (X → List ℕ) → (X → Bool) → Type 0
Forth {X} p e ok = (x : X) (rest : List ℕ) → ok x ≡ true → p (e x ++ rest) ≡ Took x rest

-- the first of two values that were taken one after the other
record First {X Y : Type 0} (e : X → List ℕ) (ok : X → Bool) (bs : List ℕ) (f : X → List ℕ → Parsed Y) (y : Y) (rest : List ℕ) : Type 0 where
  x : X
  mid : List ℕ
  is : bs ≡ e x ++ mid
  fits : ok x ≡ true
  bytes : Bytes mid
  goes : f x mid ≡ Took y rest

first : {X Y : Type 0} {p : List ℕ → Parsed X} {e : X → List ℕ} {ok : X → Bool} → Back p e ok → (bs : List ℕ) → Bytes bs → (f : X → List ℕ → Parsed Y) (y : Y) (rest : List ℕ) → and_then (p bs) f ≡ Took y rest → First e ok bs f y rest
first {X} {Y} {p} {e} {ok} back bs h f y rest eq = go (p bs) refl eq
  where
    go : (q : Parsed X) → p bs ≡ q → and_then q f ≡ Took y rest → First e ok bs f y rest
    go (Refuses r) is g = absurd (never g)
    go (Took x mid) is g =
        let b = back bs h x mid is in
        record { x = x; mid = mid; is = b.0; fits = b.1; bytes = bytes_after (e x) mid (subst Bytes b.0 h); goes = g }

-- a test that was passed
passed : {X : Type 0} (b : Bool) (x y : X) (m r : List ℕ) (q : Refusal) → cond b (Took x m) (Refuses q) ≡ Took y r → (b ≡ true) × (Took x m ≡ Took y r)
passed true x y m r q e = (refl, e)
passed false x y m r q e = absurd (never e)

tested : {X : Type 0} (p : List ℕ → Parsed X) (e : X → List ℕ) (ok test : X → Bool) (q : Refusal) → Back p e ok → Back (λ bs. and_then (p bs) (λ x rest. cond (test x) (Took x rest) (Refuses q))) e test
tested p e ok test q back bs h y rest eq =
    let s = first back bs h (λ x rest. cond (test x) (Took x rest) (Refuses q)) y rest eq in
    let t = passed (test s.x) s.x y s.mid rest q s.goes in
    took_as (λ z r. (bs ≡ e z ++ r) × (test z ≡ true)) t.1 (s.is, t.0)

within_back : (low high : ℕ) → Back (number_within low high) spelled (within low high)
within_back low high = tested number spelled (within 0 highest_number) (within low high) Limit number_back

number_forth : Forth number spelled (within 0 highest_number)
number_forth n rest h =
    let l : n ≤ highest_number = leb-true n highest_number (and_parts (leb 0 n) (leb n highest_number) h).1 in
    number_spelled n rest (omega arith)

within_forth : (low high : ℕ) → high < 2 ^ 64 → Forth (number_within low high) spelled (within low high)
within_forth low high f n rest h =
    let l : n ≤ high = leb-true n high (and_parts (leb low n) (leb n high) h).1 in
    ap (λ p. and_then p (λ n rest. cond (within low high n) (Took n rest) (Refuses Limit))) (number_spelled n rest (omega arith)) ∙ rw h

side_back : Back side spelled is_count
side_back = tested number spelled (within 0 highest_number) is_count Limit number_back

pub side_small : (n : ℕ) → is_count n ≡ true → n ≤ 8
side_small n h =
    elim (or_cases (eqb n 1) (eqb n 2 || (eqb n 4 || eqb n 8)) h) [
      | inl a ↦ (let q : n ≡ 1 = eqb-true n 1 a in omega arith)
      | inr k ↦ elim (or_cases (eqb n 2) (eqb n 4 || eqb n 8) k) [
        | inl a ↦ (let q : n ≡ 2 = eqb-true n 2 a in omega arith)
        | inr m ↦ elim (or_cases (eqb n 4) (eqb n 8) m) [
          | inl a ↦ (let q : n ≡ 4 = eqb-true n 4 a in omega arith)
          | inr a ↦ (let q : n ≡ 8 = eqb-true n 8 a in omega arith)
        ]
      ]
    ]

side_forth : Forth side spelled is_count
side_forth n rest h =
    let l : n ≤ 8 = side_small n h in
    ap (λ p. and_then p (λ n rest. cond (is_count n) (Took n rest) (Refuses Limit))) (number_spelled n rest (omega arith)) ∙ rw h

-- bytes as they stand, so many of them
plain_was : (n : ℕ) (bs xs rest : List ℕ) → plain n bs ≡ Took xs rest → (bs ≡ xs ++ rest) × (length xs ≡ n)
plain_was n bs xs rest e =
    let t = passed (leb n (length bs)) (take n bs) xs (drop n bs) rest Truncated e in
    took_as (λ ys r. (bs ≡ ys ++ r) × (length ys ≡ n)) t.1 (sym (take-append-drop n bs), length-take-le n bs (leb-true n (length bs) t.0))

plain_forth : (xs rest : List ℕ) (n : ℕ) → length xs ≡ n → plain n (xs ++ rest) ≡ Took xs rest
plain_forth xs rest n h =
    let l : n ≤ length (xs ++ rest) = simp length-append (omega arith) in
    rw (le-leb n (length (xs ++ rest)) l) (ap (λ ys. Took ys (drop n (xs ++ rest))) (take_at xs rest n h) ∙ ap (λ r. Took xs r) (drop_at xs rest n h))

-- two parts that stand one after the other
join : {bs m : List ℕ} (a b r : List ℕ) → bs ≡ a ++ m → m ≡ b ++ r → bs ≡ (a ++ b) ++ r
join a b r p q = p ∙ ap (λ l. a ++ l) q ∙ sym (append_assoc a b r)

-- a value that is written and read: both ways
pub record Codec (X : Type 0) : Type 0 where
  pub read : List ℕ → Parsed X
  pub write : X → List ℕ
  pub ok : X → Bool
  pub back : Back read write ok
  pub forth : Forth read write ok

-- a part that is written before others reads back, and what follows from it goes on behind it
forth_then : {X Y : Type 0} (k : Codec X) (x : X) → k.ok x ≡ true → (tail rest : List ℕ) (f : X → List ℕ → Parsed Y) → and_then (k.read ((k.write x ++ tail) ++ rest)) f ≡ f x (tail ++ rest)
forth_then k x h tail rest f = ap (λ l. and_then (k.read l) f) (append_assoc (k.write x) tail rest) ∙ ap (λ q. and_then q f) (k.forth x (tail ++ rest) h)

forth_last : {X Y : Type 0} (k : Codec X) (x : X) → k.ok x ≡ true → (rest : List ℕ) (f : X → List ℕ → Parsed Y) → and_then (k.read (k.write x ++ rest)) f ≡ f x rest
forth_last k x h rest f = ap (λ q. and_then q f) (k.forth x rest h)

abbrev numbers : Codec ℕ
numbers = record { read = number; write = spelled; ok = within 0 highest_number; back = number_back; forth = number_forth }

abbrev limited : (low high : ℕ) → high < 2 ^ 64 → Codec ℕ
limited low high f = record { read = number_within low high; write = spelled; ok = within low high; back = within_back low high; forth = within_forth low high f }

abbrev sides : Codec ℕ
sides = record { read = side; write = spelled; ok = is_count; back = side_back; forth = side_forth }

-- what came before the value at the end
pub came : {X Y : Type 0} (p : Parsed X) (f : X → List ℕ → Parsed Y) (y : Y) (rest : List ℕ) → and_then p f ≡ Took y rest → (x : X) × (mid : List ℕ) × (p ≡ Took x mid) × (f x mid ≡ Took y rest)
came (Refuses r) f y rest e = absurd (never e)
came (Took x mid) f y rest e = (x, mid, refl, e)

-- a test that had to fail
failed : {X : Type 0} (b : Bool) (x y : X) (m r : List ℕ) (q : Refusal) → cond b (Refuses q) (Took x m) ≡ Took y r → (b ≡ false) × (Took x m ≡ Took y r)
failed true x y m r q e = absurd (never e)
failed false x y m r q e = (refl, e)

pub script_was : (n : ℕ) (bs xs rest : List ℕ) → script n bs ≡ Took xs rest → (bs ≡ xs ++ rest) × (length xs ≡ n) × (all_zero xs ≡ false)
script_was n bs xs rest e =
    let s = came (plain n bs) (λ bytes rest. cond (all_zero bytes) (Refuses Limit) (Took bytes rest)) xs rest e in
    let t = failed (all_zero s.0) s.0 xs s.1 rest Limit s.3 in
    let p = plain_was n bs s.0 s.1 s.2 in
    took_as (λ ys r. (bs ≡ ys ++ r) × (length ys ≡ n) × (all_zero ys ≡ false)) t.1 (p.0, p.1, t.0)

script_forth : (xs rest : List ℕ) (n : ℕ) → length xs ≡ n → all_zero xs ≡ false → script n (xs ++ rest) ≡ Took xs rest
script_forth xs rest n h z = ap (λ p. and_then p (λ bytes rest. cond (all_zero bytes) (Refuses Limit) (Took bytes rest))) (plain_forth xs rest n h) ∙ rw z

-- a number that is 1 or 2
one_or_two : (n : ℕ) → within 1 2 n ≡ true → eqb n 1 ≡ false → n ≡ 2
one_or_two n h o =
    let l : 1 ≤ n = leb-true 1 n (and_parts (leb 1 n) (leb n 2) h).0 in
    let u : n ≤ 2 = leb-true n 2 (and_parts (leb 1 n) (leb n 2) h).1 in
    let ne : n ≡ 1 → ⊥ = eqb-false n 1 o in
    elim (cases_lt n 2) [ inl k ↦ absurd (ne (omega arith)) | inr k ↦ omega arith ]

abbrev bottom_after : ℕ → List ℕ → Parsed (Bottom × List ℕ)
bottom_after kind rest = cond (eqb kind 1) (ordered rest) (scripted rest)

-- what is left to read of a memory with a script, once its length is known
abbrev after_length : ℕ → List ℕ → Parsed (Bottom × List ℕ)
after_length n rest = and_then (script n rest) (λ bytes rest. Took (Scripted n, bytes) rest)

bottom_back : Back bottom (λ b. bottom_bytes b.0 b.1) (λ b. bottom_in_limits b.0 b.1)
bottom_back bs h y rest e =
    let s = first (within_back 1 2) bs h bottom_after y rest e in
    go s.x s.mid s.is s.fits s.bytes (eqb s.x 1) refl s.goes
  where
    go : (kind : ℕ) (m : List ℕ) → bs ≡ spelled kind ++ m → within 1 2 kind ≡ true → Bytes m → (b : Bool) → eqb kind 1 ≡ b → cond b (ordered m) (scripted m) ≡ Took y rest → (bs ≡ bottom_bytes y.0 y.1 ++ rest) × (bottom_in_limits y.0 y.1 ≡ true)
    go kind m is fits by true b g =
        let one : kind ≡ 1 = eqb-true kind 1 b in
        let t = first (within_back 1 longest_latency) m by (λ latency rest. Took (Ordered latency, []) rest) y rest g in
        took_as (λ z r. (bs ≡ bottom_bytes z.0 z.1 ++ r) × (bottom_in_limits z.0 z.1 ≡ true)) t.goes
        (join (spelled 1) (spelled t.x) t.mid (is ∙ ap (λ k. spelled k ++ m) one) t.is, and_from (within 1 longest_latency t.x) true t.fits refl)
    go kind m is fits by false b g =
        let two : kind ≡ 2 = one_or_two kind fits b in
        let t = first (within_back 1 longest_script) m by after_length y rest g in
        let c = came (script t.x t.mid) (λ bytes rest. Took (Scripted t.x, bytes) rest) y rest t.goes in
        let w = script_was t.x t.mid c.0 c.1 c.2 in
        took_as (λ z r. (bs ≡ bottom_bytes z.0 z.1 ++ r) × (bottom_in_limits z.0 z.1 ≡ true)) c.3 (
          join (spelled 2) (spelled t.x ++ c.0) c.1 (is ∙ ap (λ k. spelled k ++ m) two) (join (spelled t.x) c.0 c.1 t.is w.0),
          and_from (within 1 longest_script t.x) (eqb (length c.0) t.x && not (all_zero c.0)) t.fits
              (and_from (eqb (length c.0) t.x) (not (all_zero c.0)) (eq-eqb (length c.0) t.x w.1) (not_from_false (all_zero c.0) w.2)),
        )

bottom_forth : Forth bottom (λ b. bottom_bytes b.0 b.1) (λ b. bottom_in_limits b.0 b.1)
bottom_forth (Ordered n, xs) rest h =
    let p = and_parts (within 1 longest_latency n) (eqb (length xs) 0) h in
    let none : xs ≡ [] = nil_from_length xs (eqb-true (length xs) 0 p.1) in
    forth_then (limited 1 2 (omega arith)) 1 refl (spelled n) rest bottom_after
    ∙ forth_last (limited 1 longest_latency (omega arith)) n p.0 rest (λ latency rest. Took (Ordered latency, []) rest)
    ∙ ap (λ ys. Took (Ordered n, ys) rest) (sym none)
bottom_forth (Scripted n, xs) rest h =
    let p = and_parts (within 1 longest_script n) (eqb (length xs) n && not (all_zero xs)) h in
    let q = and_parts (eqb (length xs) n) (not (all_zero xs)) p.1 in
    forth_then (limited 1 2 (omega arith)) 2 refl (spelled n ++ xs) rest bottom_after
    ∙ forth_then (limited 1 longest_script (omega arith)) n p.0 xs rest after_length
    ∙ ap (λ r. and_then r (λ bytes rest. Took (Scripted n, bytes) rest)) (script_forth xs rest n (eqb-true (length xs) n q.0) (not-true (all_zero xs) q.1))

abbrev bottoms : Codec (Bottom × List ℕ)
bottoms = record { read = bottom; write = λ b. bottom_bytes b.0 b.1; ok = λ b. bottom_in_limits b.0 b.1; back = bottom_back; forth = bottom_forth }

abbrev bad_line_of : ℕ → ℕ → BadLine
bad_line_of line cause = record { line = line; cause = cause }

bad_line_back : Back bad_line bad_line_bytes bad_line_in_limits
bad_line_back bs h y rest e =
    let s = first (within_back 0 highest_bad_line) bs h (λ line rest. and_then (number_within 0 highest_cause rest) (λ cause rest. Took (bad_line_of line cause) rest)) y rest e in
    let t = first (within_back 0 highest_cause) s.mid s.bytes (λ cause rest. Took (bad_line_of s.x cause) rest) y rest s.goes in
    took_as (λ b r. (bs ≡ bad_line_bytes b ++ r) × (bad_line_in_limits b ≡ true)) t.goes
    (join (spelled s.x) (spelled t.x) t.mid s.is t.is, and_from (within 0 highest_bad_line s.x) (within 0 highest_cause t.x) s.fits t.fits)

bad_line_forth : Forth bad_line bad_line_bytes bad_line_in_limits
bad_line_forth b rest h =
    let p = and_parts (within 0 highest_bad_line b.line) (within 0 highest_cause b.cause) h in
    forth_then (limited 0 highest_bad_line (omega arith)) b.line p.0 (spelled b.cause) rest (λ line rest. and_then (number_within 0 highest_cause rest) (λ cause rest. Took (bad_line_of line cause) rest))
    ∙ forth_last (limited 0 highest_cause (omega arith)) b.cause p.1 rest (λ cause rest. Took (bad_line_of b.line cause) rest)

bad_lines_back : (k : ℕ) → Back (bad_lines k) (flat_map bad_line_bytes) (λ xs. eqb (length xs) k && bad_lines_in_limits xs)
bad_lines_back zero bs h y rest e = took_as (λ xs r. (bs ≡ flat_map bad_line_bytes xs ++ r) × ((eqb (length xs) 0 && bad_lines_in_limits xs) ≡ true)) e (refl, refl)
bad_lines_back (suc k) bs h y rest e =
    let s = first bad_line_back bs h (λ b rest. and_then (bad_lines k rest) (λ more rest. Took (b ∷ more) rest)) y rest e in
    let t = first (bad_lines_back k) s.mid s.bytes (λ more rest. Took (s.x ∷ more) rest) y rest s.goes in
    let p = and_parts (eqb (length t.x) k) (bad_lines_in_limits t.x) t.fits in
    took_as (λ xs r. (bs ≡ flat_map bad_line_bytes xs ++ r) × ((eqb (length xs) (suc k) && bad_lines_in_limits xs) ≡ true)) t.goes (
      join (bad_line_bytes s.x) (flat_map bad_line_bytes t.x) t.mid s.is t.is,
      and_from (eqb (suc (length t.x)) (suc k)) (bad_line_in_limits s.x && bad_lines_in_limits t.x) (eq-eqb (suc (length t.x)) (suc k) (ap suc (eqb-true (length t.x) k p.0))) (and_from (bad_line_in_limits s.x) (bad_lines_in_limits t.x) s.fits p.1),
    )

abbrev bad_line_codec : Codec BadLine
bad_line_codec = record { read = bad_line; write = bad_line_bytes; ok = bad_line_in_limits; back = bad_line_back; forth = bad_line_forth }

bad_lines_forth : (k : ℕ) → Forth (bad_lines k) (flat_map bad_line_bytes) (λ xs. eqb (length xs) k && bad_lines_in_limits xs)
bad_lines_forth zero [] rest h = refl
bad_lines_forth zero (x ∷ xs) rest h = absurd (let z : suc (length xs) ≡ 0 = eqb-true (suc (length xs)) 0 (and_parts (eqb (suc (length xs)) 0) (bad_lines_in_limits (x ∷ xs)) h).0 in omega arith)
bad_lines_forth (suc k) [] rest h = absurd (let z : 0 ≡ suc k = eqb-true 0 (suc k) (and_parts (eqb 0 (suc k)) true h).0 in omega arith)
bad_lines_forth (suc k) (x ∷ xs) rest h =
    let p = and_parts (eqb (suc (length xs)) (suc k)) (bad_line_in_limits x && bad_lines_in_limits xs) h in
    let q = and_parts (bad_line_in_limits x) (bad_lines_in_limits xs) p.1 in
    let n : suc (length xs) ≡ suc k = eqb-true (suc (length xs)) (suc k) p.0 in
    let m : length xs ≡ k = omega arith in
    forth_then bad_line_codec x q.0 (flat_map bad_line_bytes xs) rest (λ b rest. and_then (bad_lines k rest) (λ more rest. Took (b ∷ more) rest))
    ∙ ap (λ r. and_then r (λ more rest. Took (x ∷ more) rest)) (bad_lines_forth k xs rest (and_from (eqb (length xs) k) (bad_lines_in_limits xs) (eq-eqb (length xs) k m) q.1))

abbrev bad_line_list : ℕ → Codec (List BadLine)
bad_line_list k = record { read = bad_lines k; write = flat_map bad_line_bytes; ok = λ xs. eqb (length xs) k && bad_lines_in_limits xs; back = bad_lines_back k; forth = bad_lines_forth k }

rule_back : (n : ℕ) → within 1 2 n ≡ true → n ≡ rule_number (rule_of n)
rule_back n h = go (eqb n 1) refl
  where
    go : (b : Bool) → eqb n 1 ≡ b → n ≡ rule_number (cond b Lru Fifo)
    go true e = eqb-true n 1 e
    go false e = one_or_two n h e

rule_within : (r : Rule) → within 1 2 (rule_number r) ≡ true
rule_within Lru = refl
rule_within Fifo = refl

rule_forth : (r : Rule) → rule_of (rule_number r) ≡ r
rule_forth Lru = refl
rule_forth Fifo = refl

rule_read_back : Back rule (λ r. spelled (rule_number r)) (λ _. true)
rule_read_back bs h y rest e =
    let s = first (within_back 1 2) bs h (λ n rest. Took (rule_of n) rest) y rest e in
    took_as (λ r m. (bs ≡ spelled (rule_number r) ++ m) × (true ≡ true)) s.goes (s.is ∙ ap (λ n. spelled n ++ s.mid) (rule_back s.x s.fits), refl)

rule_read_forth : Forth rule (λ r. spelled (rule_number r)) (λ _. true)
rule_read_forth r rest h = forth_last (limited 1 2 (omega arith)) (rule_number r) (rule_within r) rest (λ n rest. Took (rule_of n) rest) ∙ ap (λ q. Took q rest) (rule_forth r)

abbrev rules_by_number : Codec Rule
rules_by_number = record { read = rule; write = λ r. spelled (rule_number r); ok = λ _. true; back = rule_read_back; forth = rule_read_forth }

abbrev level_of : ℕ → ℕ → Rule → Level
level_of sets ways r = record { sets = sets; ways = ways; rule = r }

level_back : Back level level_bytes level_in_limits
level_back bs h y rest e =
    let s = first side_back bs h (λ sets rest. and_then (side rest) (λ ways rest. and_then (rule rest) (λ r rest. Took (level_of sets ways r) rest))) y rest e in
    let w = first side_back s.mid s.bytes (λ ways rest. and_then (rule rest) (λ r rest. Took (level_of s.x ways r) rest)) y rest s.goes in
    let r = first rule_read_back w.mid w.bytes (λ r rest. Took (level_of s.x w.x r) rest) y rest w.goes in
    took_as (λ l rest. (bs ≡ level_bytes l ++ rest) × (level_in_limits l ≡ true)) r.goes (
      join (spelled s.x) (spelled w.x ++ spelled (rule_number r.x)) r.mid s.is (join (spelled w.x) (spelled (rule_number r.x)) r.mid w.is r.is),
      and_from (is_count s.x) (is_count w.x) s.fits w.fits,
    )

level_forth : Forth level level_bytes level_in_limits
level_forth l rest h =
    let p = and_parts (is_count l.sets) (is_count l.ways) h in
    forth_then sides l.sets p.0 (spelled l.ways ++ spelled (rule_number l.rule)) rest (λ sets rest. and_then (side rest) (λ ways rest. and_then (rule rest) (λ r rest. Took (level_of sets ways r) rest)))
    ∙ forth_then sides l.ways p.1 (spelled (rule_number l.rule)) rest (λ ways rest. and_then (rule rest) (λ r rest. Took (level_of l.sets ways r) rest))
    ∙ forth_last rules_by_number l.rule refl rest (λ r rest. Took (level_of l.sets l.ways r) rest)

abbrev level_codec : Codec Level
level_codec = record { read = level; write = level_bytes; ok = level_in_limits; back = level_back; forth = level_forth }

levels_back : Back levels (λ l. levels_bytes l.0 l.1) (λ l. level_in_limits l.0 && upper_in_limits l.1)
levels_back bs h y rest e =
    let s = first (within_back 1 most_levels) bs h (λ count rest. and_then (level rest) (λ lowest rest. and_then (upper count rest) (λ second rest. Took (lowest, second) rest))) y rest e in
    let l = first level_back s.mid s.bytes (λ lowest rest. and_then (upper s.x rest) (λ second rest. Took (lowest, second) rest)) y rest s.goes in
    go s.x s.mid l.x l.mid s.is l.is s.fits l.fits l.bytes (eqb s.x 1) refl l.goes
  where
    go : (count : ℕ) (m1 : List ℕ) (lowest : Level) (m2 : List ℕ) → bs ≡ spelled count ++ m1 → m1 ≡ level_bytes lowest ++ m2 → within 1 most_levels count ≡ true → level_in_limits lowest ≡ true → Bytes m2 → (b : Bool) → eqb count 1 ≡ b → and_then (cond b (Took None m2) (and_then (level m2) (λ l rest. Took (Some l) rest))) (λ second rest. Took (lowest, second) rest) ≡ Took y rest → (bs ≡ levels_bytes y.0 y.1 ++ rest) × ((level_in_limits y.0 && upper_in_limits y.1) ≡ true)
    go count m1 lowest m2 i1 i2 f1 f2 by true b g =
        let one : count ≡ 1 = eqb-true count 1 b in
        took_as (λ z r. (bs ≡ levels_bytes z.0 z.1 ++ r) × ((level_in_limits z.0 && upper_in_limits z.1) ≡ true)) g
        (join (spelled 1) (level_bytes lowest) m2 (i1 ∙ ap (λ k. spelled k ++ m1) one) i2, and_from (level_in_limits lowest) true f2 refl)
    go count m1 lowest m2 i1 i2 f1 f2 by false b g =
        let two : count ≡ 2 = one_or_two count f1 b in
        let c = came (and_then (level m2) (λ l rest. Took (Some l) rest)) (λ second rest. Took (lowest, second) rest) y rest g in
        let d = first level_back m2 by (λ l rest. Took (Some l) rest) c.0 c.1 c.2 in
        let whole : Took (lowest, Some d.x) d.mid ≡ Took y rest = ap (λ q. and_then q (λ second rest. Took (lowest, second) rest)) d.goes ∙ c.3 in
        took_as (λ z r. (bs ≡ levels_bytes z.0 z.1 ++ r) × ((level_in_limits z.0 && upper_in_limits z.1) ≡ true)) whole (
          join (spelled 2) (level_bytes lowest ++ level_bytes d.x) d.mid (i1 ∙ ap (λ k. spelled k ++ m1) two) (join (level_bytes lowest) (level_bytes d.x) d.mid i2 d.is),
          and_from (level_in_limits lowest) (level_in_limits d.x) f2 d.fits,
        )

abbrev after_count : ℕ → List ℕ → Parsed (Level × Option Level)
after_count count rest = and_then (level rest) (λ lowest rest. and_then (upper count rest) (λ second rest. Took (lowest, second) rest))

levels_forth : Forth levels (λ l. levels_bytes l.0 l.1) (λ l. level_in_limits l.0 && upper_in_limits l.1)
levels_forth (lowest, None) rest h =
    forth_then (limited 1 most_levels (omega arith)) 1 refl (level_bytes lowest) rest after_count
    ∙ forth_last level_codec lowest (and_parts (level_in_limits lowest) true h).0 rest (λ lowest rest. and_then (upper 1 rest) (λ second rest. Took (lowest, second) rest))
levels_forth (lowest, Some second) rest h =
    let p = and_parts (level_in_limits lowest) (level_in_limits second) h in
    forth_then (limited 1 most_levels (omega arith)) 2 refl (level_bytes lowest ++ level_bytes second) rest after_count
    ∙ forth_then level_codec lowest p.0 (level_bytes second) rest (λ lowest rest. and_then (upper 2 rest) (λ second rest. Took (lowest, second) rest))
    ∙ ap (λ q. and_then q (λ second rest. Took (lowest, second) rest)) (forth_last level_codec second p.1 rest (λ l rest. Took (Some l) rest))

abbrev levels_codec : Codec (Level × Option Level)
levels_codec = record { read = levels; write = λ l. levels_bytes l.0 l.1; ok = λ l. level_in_limits l.0 && upper_in_limits l.1; back = levels_back; forth = levels_forth }

-- a kind byte and the fields that it announces
abbrev Fields : ℕ → (List ℕ → Parsed Item) → Type 0
Fields kind read = (bs : List ℕ) → Bytes bs → (item : Item) (rest : List ℕ) → read bs ≡ Took item rest → (kind ∷ bs ≡ encode item ++ rest) × (in_limits item ≡ true) × (is_setup item ≡ eqb kind 0)

-- what is left to read of a setup after each field
abbrev after_bad : ℕ → Bottom × List ℕ → ℕ → List BadLine → List ℕ → Parsed Item
after_bad lines b count bad rest = and_then (levels rest) (λ l rest. Took (setup_of lines b count bad l) rest)

abbrev after_bad_count : ℕ → Bottom × List ℕ → ℕ → List ℕ → Parsed Item
after_bad_count lines b count rest = and_then (bad_lines count rest) (after_bad lines b count)

abbrev after_bottom : ℕ → Bottom × List ℕ → List ℕ → Parsed Item
after_bottom lines b rest = and_then (number_within 0 most_bad_lines rest) (after_bad_count lines b)

abbrev after_lines : ℕ → List ℕ → Parsed Item
after_lines lines rest = and_then (bottom rest) (after_bottom lines)

setup_back : Fields 0 setup_fields
setup_back bs h item rest e =
    let n = first (within_back 1 most_lines) bs h after_lines item rest e in
    let b = first bottom_back n.mid n.bytes (after_bottom n.x) item rest n.goes in
    let k = first (within_back 0 most_bad_lines) b.mid b.bytes (after_bad_count n.x b.x) item rest b.goes in
    let x = first (bad_lines_back k.x) k.mid k.bytes (after_bad n.x b.x k.x) item rest k.goes in
    let l = first levels_back x.mid x.bytes (λ l rest. Took (setup_of n.x b.x k.x x.x l) rest) item rest x.goes in
    took_as (λ i r. (0 ∷ bs ≡ encode i ++ r) × (in_limits i ≡ true) × (is_setup i ≡ true)) l.goes (
      setup_joined n.x b.x k.x x.x l.x l.mid n.is b.is k.is x.is l.is,
      setup_limits n.x b.x k.x x.x l.x n.fits b.fits k.fits x.fits l.fits,
      refl,
    )
  where
    setup_joined : (n : ℕ) (b : Bottom × List ℕ) (k : ℕ) (x : List BadLine) (l : Level × Option Level) (r : List ℕ) {m1 m2 m3 m4 : List ℕ} → bs ≡ spelled n ++ m1 → m1 ≡ bottom_bytes b.0 b.1 ++ m2 → m2 ≡ spelled k ++ m3 → m3 ≡ flat_map bad_line_bytes x ++ m4 → m4 ≡ levels_bytes l.0 l.1 ++ r → 0 ∷ bs ≡ encode (setup_of n b k x l) ++ r
    setup_joined n b k x l r i1 i2 i3 i4 i5 =
        let e4 = levels_bytes l.0 l.1 in
        let e3 = flat_map bad_line_bytes x ++ e4 in
        let e2 = spelled k ++ e3 in
        let e1 = bottom_bytes b.0 b.1 ++ e2 in
        ap (λ ys. 0 ∷ ys) (join (spelled n) e1 r i1 (join (bottom_bytes b.0 b.1) e2 r i2 (join (spelled k) e3 r i3 (join (flat_map bad_line_bytes x) e4 r i4 i5))))

    setup_limits : (n : ℕ) (b : Bottom × List ℕ) (k : ℕ) (x : List BadLine) (l : Level × Option Level) → within 1 most_lines n ≡ true → bottom_in_limits b.0 b.1 ≡ true → within 0 most_bad_lines k ≡ true → (eqb (length x) k && bad_lines_in_limits x) ≡ true → (level_in_limits l.0 && upper_in_limits l.1) ≡ true → in_limits (setup_of n b k x l) ≡ true
    setup_limits n b k x l f1 f2 f3 f4 f5 =
        let p = and_parts (eqb (length x) k) (bad_lines_in_limits x) f4 in
        and_from _ _ f1 (and_from _ _ f2 (and_from _ _ f3 (and_from _ _ p.0 (and_from _ _ p.1 f5))))

-- the parts of a setup that is within its limits
pub record SetupLimits (s : Setup) (script : List ℕ) (bad : List BadLine) : Type 0 where
  pub lines : within 1 most_lines s.lines ≡ true
  pub bottom : bottom_in_limits s.bottom script ≡ true
  pub count : within 0 most_bad_lines s.bad_line_count ≡ true
  pub counted : eqb (length bad) s.bad_line_count ≡ true
  pub bad_lines : bad_lines_in_limits bad ≡ true
  pub levels : (level_in_limits s.lowest && upper_in_limits s.upper) ≡ true

pub setup_parts : (s : Setup) (script : List ℕ) (bad : List BadLine) → in_limits (setup s script bad) ≡ true → SetupLimits s script bad
setup_parts s script bad h =
    let levels = level_in_limits s.lowest && upper_in_limits s.upper in
    let bads = bad_lines_in_limits bad in
    let counted = eqb (length bad) s.bad_line_count in
    let count = within 0 most_bad_lines s.bad_line_count in
    let named = bottom_in_limits s.bottom script in
    let f1 = and_parts (within 1 most_lines s.lines) (named && (count && (counted && (bads && levels)))) h in
    let f2 = and_parts named (count && (counted && (bads && levels))) f1.1 in
    let f3 = and_parts count (counted && (bads && levels)) f2.1 in
    let f4 = and_parts counted (bads && levels) f3.1 in
    let f5 = and_parts bads levels f4.1 in
    record { lines = f1.0; bottom = f2.0; count = f3.0; counted = f4.0; bad_lines = f5.0; levels = f5.1 }

setup_forth : (s : Setup) (script : List ℕ) (bad : List BadLine) (rest tail : List ℕ) → in_limits (setup s script bad) ≡ true → 0 ∷ tail ≡ encode (setup s script bad) → setup_fields (tail ++ rest) ≡ Took (setup s script bad) rest
setup_forth s xs bad rest tail h t =
    let b : Bottom × List ℕ = (s.bottom, xs) in
    let l : Level × Option Level = (s.lowest, s.upper) in
    let f = setup_parts s xs bad h in
    let same : tail ≡ spelled s.lines ++ (bottom_bytes s.bottom xs ++ (spelled s.bad_line_count ++ (flat_map bad_line_bytes bad ++ levels_bytes s.lowest s.upper))) = cc in
    ap (λ ys. setup_fields (ys ++ rest)) same
    ∙ forth_then (limited 1 most_lines (omega arith)) s.lines f.lines (bottom_bytes s.bottom xs ++ (spelled s.bad_line_count ++ (flat_map bad_line_bytes bad ++ levels_bytes s.lowest s.upper))) rest after_lines
    ∙ forth_then bottoms b f.bottom (spelled s.bad_line_count ++ (flat_map bad_line_bytes bad ++ levels_bytes s.lowest s.upper)) rest (after_bottom s.lines)
    ∙ forth_then (limited 0 most_bad_lines (omega arith)) s.bad_line_count f.count (flat_map bad_line_bytes bad ++ levels_bytes s.lowest s.upper) rest (after_bad_count s.lines b)
    ∙ forth_then (bad_line_list s.bad_line_count) bad (and_from (eqb (length bad) s.bad_line_count) (bad_lines_in_limits bad) f.counted f.bad_lines) (levels_bytes s.lowest s.upper) rest (after_bad s.lines b s.bad_line_count)
    ∙ forth_last levels_codec l f.levels rest (λ l rest. Took (setup_of s.lines b s.bad_line_count bad l) rest)

load_back : Fields 1 load_fields
load_back bs h item rest e =
    let s = first (within_back 0 largest_size) bs h (λ size rest. and_then (number_within 0 highest_address rest) (λ address rest. Took (load size address) rest)) item rest e in
    let a = first (within_back 0 highest_address) s.mid s.bytes (λ address rest. Took (load s.x address) rest) item rest s.goes in
    took_as (λ i r. (1 ∷ bs ≡ encode i ++ r) × (in_limits i ≡ true) × (is_setup i ≡ false)) a.goes
    (ap (λ ys. 1 ∷ ys) (join (spelled s.x) (spelled a.x) a.mid s.is a.is), and_from _ _ s.fits a.fits, refl)

store_back : Fields 2 store_fields
store_back bs h item rest e =
    let s = first (within_back 0 largest_size) bs h (λ size rest. and_then (number_within 0 highest_address rest) (λ address rest. and_then (number rest) (λ value rest. Took (store size address value) rest))) item rest e in
    let a = first (within_back 0 highest_address) s.mid s.bytes (λ address rest. and_then (number rest) (λ value rest. Took (store s.x address value) rest)) item rest s.goes in
    let v = first number_back a.mid a.bytes (λ value rest. Took (store s.x a.x value) rest) item rest a.goes in
    took_as (λ i r. (2 ∷ bs ≡ encode i ++ r) × (in_limits i ≡ true) × (is_setup i ≡ false)) v.goes
    (ap (λ ys. 2 ∷ ys) (join (spelled s.x) (spelled a.x ++ spelled v.x) v.mid s.is (join (spelled a.x) (spelled v.x) v.mid a.is v.is)), and_from _ _ s.fits (and_from _ _ a.fits v.fits), refl)

pass_back : Fields 3 pass_fields
pass_back bs h item rest e =
    let s = first (within_back 1 most_steps) bs h (λ steps rest. Took (pass steps) rest) item rest e in
    took_as (λ i r. (3 ∷ bs ≡ encode i ++ r) × (in_limits i ≡ true) × (is_setup i ≡ false)) s.goes (ap (λ ys. 3 ∷ ys) s.is, s.fits, refl)

text_was : (n : ℕ) (bs xs rest : List ℕ) → text n bs ≡ Took xs rest → (bs ≡ xs ++ rest) × (length xs ≡ n) × (list_all printable xs ≡ true)
text_was n bs xs rest e =
    let s = came (plain n bs) (λ bytes rest. cond (list_all printable bytes) (Took bytes rest) (Refuses Limit)) xs rest e in
    let t = passed (list_all printable s.0) s.0 xs s.1 rest Limit s.3 in
    let p = plain_was n bs s.0 s.1 s.2 in
    took_as (λ ys r. (bs ≡ ys ++ r) × (length ys ≡ n) × (list_all printable ys ≡ true)) t.1 (p.0, p.1, t.0)

note_back : Fields 4 note_fields
note_back bs h item rest e =
    let s = first (within_back 0 longest_note) bs h (λ n rest. and_then (text n rest) (λ bytes rest. Took (note bytes) rest)) item rest e in
    let c = came (text s.x s.mid) (λ bytes rest. Took (note bytes) rest) item rest s.goes in
    let t = text_was s.x s.mid c.0 c.1 c.2 in
    took_as (λ i r. (4 ∷ bs ≡ encode i ++ r) × (in_limits i ≡ true) × (is_setup i ≡ false)) c.3 (
      ap (λ ys. 4 ∷ ys) (join (spelled (length c.0)) c.0 c.1 (s.is ∙ ap (λ n. spelled n ++ s.mid) (sym t.1)) t.0),
      and_from _ _ (ap (within 0 longest_note) t.1 ∙ s.fits) t.2,
      refl,
    )

-- a number that names a kind is that kind's
kind_was : (n : ℕ) (kind : Kind) → kind_of n ≡ Some kind → n ≡ kind_number kind
kind_was n kind e = grind (arith, common_steps)

fields_back : (kind : Kind) → Fields (kind_number kind) (fields kind)
fields_back Kind.Setup = setup_back
fields_back Kind.Load = load_back
fields_back Kind.Store = store_back
fields_back Kind.Pass = pass_back
fields_back Kind.Note = note_back

-- a record that was read is written as the same bytes, is within its limits, and is a setup exactly if it was the first
pub decode_back : (f : Bool) (bs : List ℕ) → Bytes bs → (item : Item) (rest : List ℕ) → decode f bs ≡ Took item rest → (bs ≡ encode item ++ rest) × (in_limits item ≡ true) × (is_setup item ≡ f)
decode_back f [] h item rest e = absurd (never e)
decode_back f (n ∷ bs) h item rest e = go f (kind_of n) refl e
  where
    goes : (f : Bool) (kind : Kind) → n ≡ kind_number kind → eqb (kind_number kind) 0 ≡ f → fields kind bs ≡ Took item rest → (n ∷ bs ≡ encode item ++ rest) × (in_limits item ≡ true) × (is_setup item ≡ f)
    goes f kind m z e = let w = fields_back kind bs (λ k. h (suc k)) item rest e in (ap (λ k. k ∷ bs) m ∙ w.0, w.1, w.2 ∙ z)

    tried : (f z : Bool) (kind : Kind) → n ≡ kind_number kind → eqb (kind_number kind) 0 ≡ z → cond f (cond z (fields kind bs) (Refuses Misplaced)) (cond z (Refuses Misplaced) (fields kind bs)) ≡ Took item rest → (n ∷ bs ≡ encode item ++ rest) × (in_limits item ≡ true) × (is_setup item ≡ f)
    tried true true kind m z e = goes true kind m z e
    tried true false kind m z e = absurd (never e)
    tried false true kind m z e = absurd (never e)
    tried false false kind m z e = goes false kind m z e

    go : (f : Bool) (o : Option Kind) → kind_of n ≡ o → record_of f o bs ≡ Took item rest → (n ∷ bs ≡ encode item ++ rest) × (in_limits item ≡ true) × (is_setup item ≡ f)
    go f None k e = absurd (never e)
    go true (Some kind) k e = tried true (eqb (kind_number kind) 0) kind (kind_was n kind k) refl e
    go false (Some kind) k e = tried false (eqb (kind_number kind) 0) kind (kind_was n kind k) refl e

-- a record within its limits that is written reads back as itself
pub decode_forth : (item : Item) (rest : List ℕ) → in_limits item ≡ true → decode (is_setup item) (encode item ++ rest) ≡ Took item rest
decode_forth (setup s xs bad) rest h = setup_forth s xs bad rest _ h refl
decode_forth (load size address) rest h =
    let p = and_parts (within 0 largest_size size) (within 0 highest_address address) h in
    forth_then (limited 0 largest_size (omega arith)) size p.0 (spelled address) rest (λ size rest. and_then (number_within 0 highest_address rest) (λ address rest. Took (load size address) rest))
    ∙ forth_last (limited 0 highest_address (omega arith)) address p.1 rest (λ address rest. Took (load size address) rest)
decode_forth (store size address value) rest h =
    let p = and_parts (within 0 largest_size size) (within 0 highest_address address && within 0 highest_number value) h in
    let q = and_parts (within 0 highest_address address) (within 0 highest_number value) p.1 in
    forth_then (limited 0 largest_size (omega arith)) size p.0 (spelled address ++ spelled value) rest (λ size rest. and_then (number_within 0 highest_address rest) (λ address rest. and_then (number rest) (λ value rest. Took (store size address value) rest)))
    ∙ forth_then (limited 0 highest_address (omega arith)) address q.0 (spelled value) rest (λ address rest. and_then (number rest) (λ value rest. Took (store size address value) rest))
    ∙ forth_last numbers value q.1 rest (λ value rest. Took (store size address value) rest)
decode_forth (pass steps) rest h = forth_last (limited 1 most_steps (omega arith)) steps h rest (λ steps rest. Took (pass steps) rest)
decode_forth (note bytes) rest h =
    let p = and_parts (within 0 longest_note (length bytes)) (list_all printable bytes) h in
    forth_then (limited 0 longest_note (omega arith)) (length bytes) p.0 bytes rest (λ n rest. and_then (text n rest) (λ bytes rest. Took (note bytes) rest))
    ∙ ap (λ r. and_then (and_then r (λ bytes rest. cond (list_all printable bytes) (Took bytes rest) (Refuses Limit))) (λ bytes rest. Took (note bytes) rest)) (plain_forth bytes rest (length bytes) refl)
    ∙ ap (λ b. and_then (cond b (Took bytes rest) (Refuses Limit)) (λ bytes rest. Took (note bytes) rest)) p.1
