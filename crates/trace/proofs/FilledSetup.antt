-- a setup that is read into a buffer, and the same setup read by itself
use Rattle.std.proofs.Common.{◌≡◌, ℕ, zero, suc, Bool, true, false, cond, eqb, List, [], ◌∷◌, length, take, drop, Option, refl, ap, ◌∙◌}
use Rattle.std.proofs.lemmas.List.{take_at}
use Rattle.memory.specs.declared.bad_line.BadLine.{BadLine}
use Rattle.memory.specs.Limits.{most_lines, most_bad_lines, longest_latency, longest_script}
use Rattle.trace.specs.declared.records.Bottom.{Bottom}
use Rattle.trace.specs.declared.records.Bottom.TheVariants.{Ordered, Scripted}
use Rattle.trace.specs.declared.records.Kind.{Kind}
use Rattle.trace.specs.declared.records.Level.{Level}
use Rattle.trace.specs.declared.records.Record.TheVariants.{Setup as SetupRecord}
use Rattle.trace.specs.declared.records.Setup.{Setup}
use Rattle.trace.specs.declared.records.SetupBuffer.{SetupBuffer}
use Rattle.trace.specs.Decode.{script, ordered, scripted, bottom, bad_line, bad_lines, levels}
use Rattle.trace.specs.Items.{Item, setup, item_of, script_of}
use Rattle.trace.specs.Numbers.{number_within}
use Rattle.trace.specs.Parsed.{Parsed, Took, Refuses, and_then}
use Rattle.trace.proofs.Laws.{came, script_was}
use Rattle.trace.proofs.NumberSpelled.{took_as}
use Rattle.trace.specs.Filled.{onto, bottom_onto, bad_lines_onto, filled, fields_onto}

-- the fields of a setup, with its script and bad lines at the front of a buffer
abbrev pub setup_onto : SetupBuffer → List ℕ → Parsed (Setup × SetupBuffer)
setup_onto p bs =
    and_then (number_within 1 most_lines bs) (λ lines rest.
    and_then (bottom_onto p.script rest) (λ b rest.
    and_then (number_within 0 most_bad_lines rest) (λ count rest.
    and_then (bad_lines_onto count p.bad_lines rest) (λ bad rest.
    and_then (levels rest) (λ l rest.
    Took (record { lines = lines; bottom = b.0; bad_line_count = count; lowest = l.0; upper = l.1 }, record { script = b.1; bad_lines = bad }) rest)))))

-- two ways on from the same value
both : {X Y Z W : Type 0} (q : Parsed X) (f : X → List ℕ → Parsed Y) (f' : X → List ℕ → Parsed Z) (g : Y → List ℕ → Parsed W) (g' : Z → List ℕ → Parsed W) → ((x : X) (r : List ℕ) → q ≡ Took x r → and_then (f x r) g ≡ and_then (f' x r) g') → and_then (and_then q f) g ≡ and_then (and_then q f') g'
both (Took x r) f f' g g' h = h x r refl
both (Refuses e) f f' g g' h = refl

-- the same where the first way sees the value as another
both_onto : {X V Y Z W : Type 0} (q : Parsed X) (o : X → V) (f : V → List ℕ → Parsed Y) (f' : X → List ℕ → Parsed Z) (g : Y → List ℕ → Parsed W) (g' : Z → List ℕ → Parsed W) → ((x : X) (r : List ℕ) → q ≡ Took x r → and_then (f (o x) r) g ≡ and_then (f' x r) g') → and_then (and_then (and_then q (λ x r. Took (o x) r)) f) g ≡ and_then (and_then q f') g'
both_onto (Took x r) o f f' g g' h = h x r refl
both_onto (Refuses e) o f f' g g' h = refl

-- the front is what went there
front : {X : Type 0} (n : ℕ) (xs old : List X) → length xs ≡ n → take n (onto xs old) ≡ xs
front n xs old h = take_at xs (drop (length xs) old) n h

script_filled : (bs : List ℕ) (b : Bottom × List ℕ) (r old : List ℕ) → bottom bs ≡ Took b r → script_of b.0 (onto b.1 old) ≡ b.1
script_filled bs b r old e =
    let k = came (number_within 1 2 bs) (λ kind rest. cond (eqb kind 1) (ordered rest) (scripted rest)) b r e in
    go k.1 (eqb k.0 1) k.3
  where
    go : (m : List ℕ) (t : Bool) → cond t (ordered m) (scripted m) ≡ Took b r → script_of b.0 (onto b.1 old) ≡ b.1
    go m true g =
        let n = came (number_within 1 longest_latency m) (λ latency rest. Took (Ordered latency, []) rest) b r g in
        took_as (λ z _. script_of z.0 (onto z.1 old) ≡ z.1) n.3 refl
    go m false g =
        let n = came (number_within 1 longest_script m) (λ n rest. and_then (script n rest) (λ bytes rest. Took (Scripted n, bytes) rest)) b r g in
        let c = came (script n.0 n.1) (λ bytes rest. Took (Scripted n.0, bytes) rest) b r n.3 in
        took_as (λ z _. script_of z.0 (onto z.1 old) ≡ z.1) c.3 (front n.0 c.0 old (script_was n.0 n.1 c.0 c.1 c.2).1)

bad_lines_length : (k : ℕ) (bs : List ℕ) (xs : List BadLine) (r : List ℕ) → bad_lines k bs ≡ Took xs r → length xs ≡ k
bad_lines_length zero bs xs r e = took_as (λ ys _. length ys ≡ 0) e refl
bad_lines_length (suc k) bs xs r e =
    let b = came (bad_line bs) (λ b rest. and_then (bad_lines k rest) (λ more rest. Took (b ∷ more) rest)) xs r e in
    let m = came (bad_lines k b.1) (λ more rest. Took (b.0 ∷ more) rest) xs r b.3 in
    took_as (λ ys _. length ys ≡ suc k) m.3 (ap suc (bad_lines_length k b.1 m.0 m.1 m.2))

module _ (p : SetupBuffer) where
  -- a setup with its buffer, as the record that it is
  abbrev pub with_buffer : Setup × SetupBuffer → List ℕ → Parsed (Item × SetupBuffer)
  with_buffer s r = Took (item_of (SetupRecord s.0) s.1, s.1) r

  abbrev filled_as : Item → List ℕ → Parsed (Item × SetupBuffer)
  filled_as item r = Took (item, filled p item) r

  abbrev made_of : ℕ → Bottom → ℕ → Level × Option Level → SetupBuffer → List ℕ → List ℕ → List BadLine → Parsed (Item × SetupBuffer)
  made_of n b k l q r xs bad = Took (setup (record { lines = n; bottom = b; bad_line_count = k; lowest = l.0; upper = l.1 }) xs bad, q) r

  same_setup : (n : ℕ) (b : Bottom) (k : ℕ) (l : Level × Option Level) (q : SetupBuffer) (r : List ℕ) {xs xs' : List ℕ} {bad bad' : List BadLine} → xs ≡ xs' → bad ≡ bad' → made_of n b k l q r xs bad ≡ made_of n b k l q r xs' bad'
  same_setup n b k l q r {xs} {xs'} {bad} {bad'} e f = ap (λ zs. made_of n b k l q r zs bad) e ∙ ap (λ zs. made_of n b k l q r xs' zs) f

  pub setup_filled : (bs : List ℕ) → and_then (setup_onto p bs) with_buffer ≡ fields_onto p Kind.Setup bs
  setup_filled bs =
      both (number_within 1 most_lines bs) _ _ with_buffer filled_as (λ n r1 e1.
      both_onto (bottom r1) (λ b. (b.0, onto b.1 p.script)) _ _ with_buffer filled_as (λ b r2 e2.
      both (number_within 0 most_bad_lines r2) _ _ with_buffer filled_as (λ k r3 e3.
      both_onto (bad_lines k r3) (λ bad. onto bad p.bad_lines) _ _ with_buffer filled_as (λ bad r4 e4.
      both (levels r4) _ _ with_buffer filled_as (λ l r5 e5.
      same_setup n b.0 k l (record { script = onto b.1 p.script; bad_lines = onto bad p.bad_lines }) r5 (script_filled r1 b r2 p.script e2) (front k bad p.bad_lines (bad_lines_length k r3 bad r4 e4)))))))
