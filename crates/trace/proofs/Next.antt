-- reading on from an offset, by what the record there comes to
use Rattle.std.proofs.Common.{◌≡◌, ℕ, ◌+◌, ◌-◌, ◌≤◌, true, false, eqb, List, ◌++◌, length, take, drop, sym, refl, ap, ◌∙◌, arith}
use Rattle.std.proofs.lemmas.List.{length-append, length-drop, take_at, take-append-drop, length-take-le, append_assoc}
use Rattle.trace.specs.declared.refusal.Refusal.{Refusal}
use Rattle.trace.specs.declared.records.SetupBuffer.{SetupBuffer}
use Rattle.trace.specs.Decode.{decode}
use Rattle.trace.specs.Encode.{encode, in_limits}
use Rattle.trace.specs.Items.{Item}
use Rattle.trace.specs.Parsed.{Parsed, Took, Refuses, and_then}
use Rattle.trace.proofs.Laws.{came}
use Rattle.trace.proofs.NumberSpelled.{took_as, never}
use Rattle.trace.specs.Filled.{filled, record_onto}
use Rattle.trace.specs.Reading.{gave, refused, from_offset, is_over, reading, ReadBack}

refused_there : {Y : Type 0} (p : Parsed Item) (f : Item → Y) (r : Refusal) → Refuses r ≡ and_then p (λ item rest. Took (f item) rest) → p ≡ Refuses r
refused_there (Took x rest) f r e = absurd (never e)
refused_there (Refuses s) f r e = let same : r ≡ s = cc in ap (λ z. Refuses z) (sym same)

module _ (trace : List ℕ) (at : ℕ) where
  going : is_over trace at ≡ false → reading trace at ≡ from_offset trace at (decode (eqb at 0) (drop at trace))
  going e = rw e

  pub read_refused : (p : SetupBuffer) (r : Refusal) → is_over trace at ≡ false → Refuses r ≡ record_onto p (eqb at 0) (drop at trace) → reading trace at ≡ refused r at
  read_refused p r e d = going e ∙ ap (from_offset trace at) (refused_there (decode (eqb at 0) (drop at trace)) (λ item. (item, filled p item)) r d)

  pub read_gave : (p q : SetupBuffer) (item : Item) (rest : List ℕ) → is_over trace at ≡ false → Took (item, q) rest ≡ record_onto p (eqb at 0) (drop at trace) → (reading trace at ≡ gave item (length trace - length rest)) × (q ≡ filled p item) × (decode (eqb at 0) (drop at trace) ≡ Took item rest)
  read_gave p q item rest e d =
      let c = came (decode (eqb at 0) (drop at trace)) (λ item rest. Took (item, filled p item) rest) (item, q) rest (sym d) in
      took_as (λ z r. (reading trace at ≡ gave z.0 (length trace - length r)) × (z.1 ≡ filled p z.0) × (decode (eqb at 0) (drop at trace) ≡ Took z.0 r)) c.3
      (going e ∙ ap (from_offset trace at) c.2, refl, c.2)

take_on : {X : Type 0} (n : ℕ) (xs es rest : List X) → n ≤ length xs → drop n xs ≡ es ++ rest → take (n + length es) xs ≡ take n xs ++ es
take_on n xs es rest h e =
    let len : length (take n xs ++ es) ≡ n + length es = length-append (take n xs) es ∙ ap (λ k. k + length es) (length-take-le n xs h) in
    ap (take (n + length es)) (sym (take-append-drop n xs) ∙ ap (λ ys. take n xs ++ ys) e ∙ sym (append_assoc (take n xs) es rest))
    ∙ take_at (take n xs ++ es) rest (n + length es) len

module _ (trace : List ℕ) (at : ℕ) (in_trace : at ≤ length trace) where
  pub read_length : (item : Item) (rest : List ℕ) → drop at trace ≡ encode item ++ rest → length trace ≡ at + length (encode item) + length rest
  read_length item rest d =
      let l : length (drop at trace) ≡ length (encode item) + length rest = ap length d ∙ length-append (encode item) rest in
      let m : length (drop at trace) ≡ length trace - at = length-drop at trace in
      omega arith

  pub gave_back : (item : Item) (rest : List ℕ) → drop at trace ≡ encode item ++ rest → in_limits item ≡ true → ReadBack trace at (gave item (length trace - length rest))
  gave_back item rest d ok =
      let s = read_length item rest d in
      let to : length trace - length rest ≡ at + length (encode item) = omega arith in (omega arith, ap (λ n. take n trace) to ∙ take_on at trace (encode item) rest in_trace d, ok)
