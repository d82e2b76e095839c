-- records that are read one after the other, up to the end of the trace
use Rattle.std.proofs.Common.{◌≡◌, ℕ, ◌+◌, ◌-◌, ◌<◌, ◌≤◌, Bool, true, false, cond, not, eqb, List, [], ◌∷◌, ◌++◌, length, take, drop, Ok, Option, sym, refl, ap, ◌∙◌, subst, arith}
use Rattle.std.proofs.lemmas.List.{append_assoc, append-nil, drop_all, drop_at, drop-drop, get_or-drop, length-append, length-drop, length-take-le}
use Rattle.std.proofs.lemmas.Bool.{and_parts, ne_eqb, not-true}
use Rattle.trace.specs.declared.records.Record.{Record}
use Rattle.trace.specs.declared.records.SetupBuffer.{SetupBuffer}
use Rattle.trace.specs.Decode.{decode}
use Rattle.trace.specs.Encode.{encode, in_limits}
use Rattle.trace.specs.Items.{Item, setup, load, store, pass, note}
use Rattle.trace.specs.Parsed.{Parsed, Took, Refuses}
use Rattle.trace.specs.Trace.{ConsistsOf, finished, another, Trace}
use Rattle.trace.proofs.Laws.{decode_back}
use Rattle.trace.proofs.NumberSpelled.{Bytes}
use Rattle.trace.specs.ReadUpTo.{ReadUpTo, start, further}
use Rattle.trace.specs.Reading.{Outcome, ended, gave, from_offset, is_over, reading, outcome, ReadBack}

-- a record has a byte at least
pub encode_some : (item : Item) → 0 < length (encode item)
encode_some (setup s script bad) = omega arith
encode_some (load size address) = omega arith
encode_some (store size address value) = omega arith
encode_some (pass steps) = omega arith
encode_some (note bytes) = omega arith

-- where a record ends of which the bytes are known
pub ends_at : (trace es : List ℕ) (at to : ℕ) → at ≤ length trace → to ≤ length trace → take to trace ≡ take at trace ++ es → to ≡ at + length es
ends_at trace es at to l u e =
    sym (length-take-le to trace u) ∙ ap length e ∙ length-append (take at trace) es ∙ ap (λ n. n + length es) (length-take-le at trace l)

-- what a reader answers, by the record that its answer holds
pub answered : (trace : List ℕ) (at : ℕ) (o o' : Option Record) (b : SetupBuffer) (to : ℕ) → o ≡ o' → outcome (Ok o) b to ≡ reading trace at → ReadBack trace at (outcome (Ok o) b to) → (outcome (Ok o') b to ≡ reading trace at) × ReadBack trace at (outcome (Ok o') b to)
answered trace at o o' b to s e w = subst (λ x. (outcome (Ok x) b to ≡ reading trace at) × ReadBack trace at (outcome (Ok x) b to)) s (e, w)

-- what a reader gave, in the terms of the trace that it stands on
pub gave_there : {held trace : List ℕ} (at : ℕ) (o : Outcome) → held ≡ trace → (o ≡ reading held at) × ReadBack held at o → (reading trace at ≡ o) × ReadBack trace at o
gave_there at o p g = subst (λ t. (reading t at ≡ o) × ReadBack t at o) p (sym g.0, g.1)

-- a record that was given at an offset, in the terms of the trace that the reader stands on
pub record Given (trace : List ℕ) (at to : ℕ) (item : Item) : Type 0 where
  pub gives : reading trace at ≡ gave item to
  pub before : at ≤ length trace
  pub on : at < to
  pub inside : to ≤ length trace
  pub bytes : take to trace ≡ take at trace ++ encode item
  pub limits : in_limits item ≡ true

pub given : {held trace : List ℕ} (at : ℕ) (item : Item) (to : ℕ) → held ≡ trace → at ≤ length held → (gave item to ≡ reading held at) × ReadBack held at (gave item to) → Given trace at to item
given {held} {trace} at item to p l a =
    let g = gave_there at (gave item to) p a in
    let same : length held ≡ length trace = ap length p in
    let here : at ≤ length trace = omega arith in
    let ends = ends_at trace (encode item) at to here g.1.0 g.1.1 in
    let some = encode_some item in
    record { gives = g.0; before = here; on = omega arith; inside = g.1.0; bytes = g.1.1; limits = g.1.2 }

-- a record that was given was taken off the bytes there
pub given_there : (trace : List ℕ) (at : ℕ) (item : Item) (to : ℕ) (b : Bool) (p : Parsed Item) → cond b ended (from_offset trace at p) ≡ gave item to → (rest : List ℕ) × (p ≡ Took item rest) × (to ≡ length trace - length rest)
given_there trace at item to true p e = absurd (let z : ◌≡◌ {A = ℕ} 0 1 = cc in omega arith)
given_there trace at item to false (Refuses r) e = absurd (let z : ◌≡◌ {A = ℕ} 0 1 = cc in omega arith)
given_there trace at item to false (Took x rest) e =
    let i : x ≡ item = cc in
    let t : length trace - length rest ≡ to = cc in
    (rest, ap (λ y. Took y rest) i, sym t)

-- the end is only after a record
ended_later : (trace : List ℕ) (at : ℕ) (b : Bool) (p : Parsed Item) → cond b ended (from_offset trace at p) ≡ ended → b ≡ true
ended_later trace at true p e = refl
ended_later trace at false (Refuses r) e = absurd (let z : ◌≡◌ {A = ℕ} 0 1 = cc in omega arith)
ended_later trace at false (Took x rest) e = absurd (let z : ◌≡◌ {A = ℕ} 0 1 = cc in omega arith)

module _ (trace : List ℕ) (bytes : Bytes trace) where
  -- what is left of bytes is bytes
  pub left_bytes : (at : ℕ) → Bytes (drop at trace)
  left_bytes at k = subst (λ n. n < 256) (sym (get_or-drop at trace k 0)) (bytes (at + k))

  -- one record before others
  before_others : (at to : ℕ) (item : Item) (more : List Item) → reading trace at ≡ gave item to → ConsistsOf (eqb to 0) (drop to trace) more → ConsistsOf (eqb at 0) (drop at trace) (item ∷ more)
  before_others at to item more e r =
      let g = given_there trace at item to (is_over trace at) (decode (eqb at 0) (drop at trace)) e in
      let d = decode_back (eqb at 0) (drop at trace) (left_bytes at) item g.0 g.1 in
      let some = encode_some item in
      let l1 : length (drop at trace) ≡ length (encode item) + length g.0 = ap length d.0 ∙ length-append (encode item) g.0 in
      let l2 : length (drop at trace) ≡ length trace - at = length-drop at trace in
      let t : to ≡ at + length (encode item) = g.2 ∙ (let s : length trace - length g.0 ≡ at + length (encode item) = omega arith in s) in
      let later : eqb to 0 ≡ false = ne_eqb to 0 (λ z. omega arith) in
      let rest : drop to trace ≡ g.0 =
      ap (λ n. drop n trace) t ∙ sym (drop-drop (length (encode item)) at trace) ∙ ap (drop (length (encode item))) d.0 ∙ drop_at (encode item) g.0 (length (encode item)) refl in
      another g.1 (subst (λ xs. ConsistsOf false xs more) rest (subst (λ b. ConsistsOf b (drop to trace) more) later r))

  reads_up_to : {at : ℕ} {items : List Item} → ReadUpTo trace at items → (more : List Item) → ConsistsOf (eqb at 0) (drop at trace) more → ConsistsOf true trace (items ++ more)
  reads_up_to start more r = r
  reads_up_to (further {at} {to} {item} {items} p e) more r =
      subst (λ xs. ConsistsOf true trace xs) (sym (append_assoc items (item ∷ []) more)) (reads_up_to p (item ∷ more) (before_others at to item more e r))

  pub read_whole : {at : ℕ} {items : List Item} → ReadUpTo trace at items → reading trace at ≡ ended → at ≡ length trace → Trace trace items
  read_whole {at} {items} p e l =
      let later : eqb at 0 ≡ false = not-true (eqb at 0) (and_parts (not (eqb at 0)) (eqb at (length trace)) (ended_later trace at (is_over trace at) (decode (eqb at 0) (drop at trace)) e)).0 in
      let none : drop at trace ≡ [] = drop_all at trace (omega arith) in
      subst (λ xs. Trace trace xs) (append-nil items)
      (reads_up_to p [] (subst (λ xs. ConsistsOf (eqb at 0) xs []) (sym none) (subst (λ b. ConsistsOf b [] []) (sym later) finished)))
