-- what stands written reads back as the records that were written
use Rattle.std.proofs.Common.{◌≡◌, ℕ, ◌+◌, ◌≤◌, Bool, true, false, if◌then◌else◌, nat_lt, ◌==◌, List, [], ◌∷◌, ◌++◌, length, take, Ok, Err, sym, refl, ap, ◌∙◌, subst, arith}
use Rattle.std.proofs.lemmas.Grind.{common_steps}
use Rattle.std.proofs.lemmas.Bool.{false≢true}
use Rattle.trace.specs.declared.refusal.Refusal.TheVariants.{Limit, Misplaced}
use Rattle.trace.specs.Decode.{decode}
use Rattle.trace.specs.Encode.{encode, in_limits, is_setup}
use Rattle.trace.specs.Items.{Item}
use Rattle.trace.specs.Trace.{ConsistsOf, finished, another, Trace}
use Rattle.trace.proofs.NumberSpelled.{Bytes, never}
use Rattle.trace.proofs.Traces.{reads_first, reads_more}
use Rattle.trace.specs.Writing.{misplaced, adding, writing, buffer_after, Grows}

-- no bytes are no trace
none_read : {f : Bool} {bs : List ℕ} {items : List Item} → ConsistsOf f bs items → f ≡ true → bs ≡ [] → ⊥
none_read finished t n = false≢true t
none_read (another {first} {bs} e more) t n = never (sym (ap (λ f. decode f []) t) ∙ sym (ap (decode first) n) ∙ e)

bytes_front : (n : ℕ) (xs : List ℕ) → Bytes xs → Bytes (take n xs)
bytes_front n xs h k = grind (arith, common_steps, h k)

-- bytes that were added had room
had_room : (written room : ℕ) (bytes : List ℕ) → Ok tt ≡ adding written room bytes → written + length bytes ≤ room
had_room written room bytes e = grind (arith, common_steps)

-- a record that was written had room
pub record_fits : (written room : ℕ) (item : Item) → writing written room item ≡ Ok tt → written + length (encode item) ≤ room
record_fits written room item e = go (misplaced written item) (in_limits item) e
  where
    go : (m l : Bool) → (if m then Err Misplaced else if l then adding written room (encode item) else Err Limit) ≡ Ok tt → written + length (encode item) ≤ room
    go true l e = absurd (let z : ◌≡◌ {A = ℕ} 0 1 = cc in omega arith)
    go false false e = absurd (let z : ◌≡◌ {A = ℕ} 0 1 = cc in omega arith)
    go false true e = had_room written room (encode item) (sym e)

-- the front of a buffer up to the end of what was put there
front_after : (written : ℕ) (bytes buffer : List ℕ) → written + length bytes ≤ length buffer → take (written + length bytes) (buffer_after (Ok tt) written bytes buffer) ≡ take written buffer ++ bytes
front_after written bytes buffer h = grind (arith, common_steps)

-- what was put there leaves the front before it
front_before : (written : ℕ) (bytes buffer : List ℕ) → written + length bytes ≤ length buffer → take written (buffer_after (Ok tt) written bytes buffer) ≡ take written buffer
front_before written bytes buffer h = grind (arith, common_steps)

module _ (written : ℕ) (buffer : List ℕ) (item : Item) (well : misplaced written item ≡ false) (ok : in_limits item ≡ true) where
  grown : Bytes (take written buffer) → Grows written (take written buffer) (take written buffer ++ encode item) item
  grown h = go (is_setup item) refl well
    where
      go : (b : Bool) → is_setup item ≡ b → (if b then nat_lt 0 written else written == 0) ≡ false → Grows written (take written buffer) (take written buffer ++ encode item) item
      go true s m =
          let z : written ≡ 0 = grind (arith, common_steps) in (
            (λ w. subst (λ n. Trace (take n buffer ++ encode item) (item ∷ [])) (sym z) (reads_first item ok s)),
            (λ items t. absurd (none_read t refl (ap (λ n. take n buffer) z))),
          )
      go false s m = (
        (λ z. absurd (grind (arith, common_steps))),
        (λ items t. reads_more item h t ok s),
      )

  -- what stands written once a record's bytes were put after those before it
  pub written_whole : (bytes after : List ℕ) → Bytes after → bytes ≡ encode item → Ok tt ≡ adding written (length buffer) bytes → after ≡ buffer_after (Ok tt) written bytes buffer → Grows written (take written buffer) (take (written + length bytes) after) item
  written_whole bytes after h is value put =
      let room = had_room written (length buffer) bytes value in
      let same : take written after ≡ take written buffer = ap (take written) put ∙ front_before written bytes buffer room in
      subst (λ bs. Grows written (take written buffer) bs item) (sym (
      ap (take (written + length bytes)) put
      ∙ front_after written bytes buffer room
      ∙ ap (λ bs. take written buffer ++ bs) is)) (grown (subst Bytes same (bytes_front written after h)))
