-- a record behind the first, read without a buffer
use Rattle.std.proofs.Common.{◌≡◌, ℕ, ◌+◌, ◌-◌, ◌<◌, ◌≤◌, Bool, true, false, cond, eqb, nat_le, List, length, drop, Ok, Err, IfOk, Result, sym, refl, ap, ◌∙◌, Bor, arith}
use Rattle.std.proofs.lemmas.Bool.{ne_eqb, eqb-true, eqb-false, le-leb, lt-leb, leb-false}
use Rattle.std.proofs.lemmas.List.{length-append, length-drop}
use Rattle.trace.specs.declared.refusal.Refusal.{Refusal}
use Rattle.trace.specs.declared.records.Record.{Record}
use Rattle.trace.specs.declared.records.SetupBuffer.{SetupBuffer}
use Rattle.trace.specs.Decode.{decode}
use Rattle.trace.specs.Encode.{encode, in_limits, is_setup}
use Rattle.trace.specs.Filled.{seen_later}
use Rattle.trace.specs.Items.{Item, item_of}
use Rattle.trace.specs.Parsed.{Parsed, Took, Refuses}
use Rattle.trace.specs.Reading.{ended, gave, refused, from_offset, reading, reading_later}
use Rattle.trace.proofs.Laws.{decode_back}
use Rattle.trace.proofs.NumberSpelled.{Bytes}
use Rattle.trace.proofs.Runs.{encode_some, given_there, left_bytes}

-- what is left behind a record is no longer than the trace
pub left_inside : (trace : List ℕ) (at : ℕ) → Bytes trace → (b : SetupBuffer) (r : Result (Record × Bor (List ℕ)) Refusal) → seen_later b r ≡ decode false (drop at trace) → IfOk r (λ s. length s.1.now ≤ length trace)
left_inside trace at bytes b (Err e) d = tt
left_inside trace at bytes b (Ok s) d =
    let w = decode_back false (drop at trace) (left_bytes trace bytes at) (item_of s.0 b) s.1.now (sym d) in
    let l1 : length (drop at trace) ≡ length (encode (item_of s.0 b)) + length s.1.now = ap length w.0 ∙ length-append (encode (item_of s.0 b)) s.1.now in
    omega (arith, length-drop at trace)

-- behind the first record it is what the reader reads
pub later_is_reading : (trace : List ℕ) (at : ℕ) → 0 < at → at ≤ length trace → reading_later trace at ≡ reading trace at
later_is_reading trace at some inside =
    let later : eqb at 0 ≡ false = ne_eqb at 0 (λ z. omega arith) in
    rw later (go (eqb at (length trace)) refl)
  where
    go : (b : Bool) → eqb at (length trace) ≡ b → cond (nat_le (length trace) at) ended (from_offset trace at (decode false (drop at trace))) ≡ cond b ended (from_offset trace at (decode false (drop at trace)))
    go true e = rw (le-leb (length trace) at (omega (arith, eqb-true at (length trace) e))) refl
    go false e = rw (lt-leb (length trace) at (omega (arith, eqb-false at (length trace) e))) refl

-- a record that was given lies in the trace, takes a byte at least, and is within its limits
pub later_given : (trace : List ℕ) → Bytes trace → (at to : ℕ) (item : Item) → reading_later trace at ≡ gave item to → (at < to) × (to ≤ length trace) × (in_limits item ≡ true) × (is_setup item ≡ false)
later_given trace bytes at to item e =
    let g = given_there trace at item to (nat_le (length trace) at) (decode false (drop at trace)) e in
    let d = decode_back false (drop at trace) (left_bytes trace bytes at) item g.0 g.1 in
    let some = encode_some item in
    let l1 : length (drop at trace) ≡ length (encode item) + length g.0 = ap length d.0 ∙ length-append (encode item) g.0 in
    let l2 : length (drop at trace) ≡ length trace - at = length-drop at trace in
    (omega (arith, g.2), omega (arith, g.2), d.1, d.2)

-- what was refused begins there, and before the trace's end
pub later_refused : (trace : List ℕ) (at from : ℕ) (r : Refusal) → reading_later trace at ≡ refused r from → (from ≡ at) × (at < length trace)
later_refused trace at from r e = go (nat_le (length trace) at) refl (decode false (drop at trace)) e
  where
    go : (b : Bool) → nat_le (length trace) at ≡ b → (p : Parsed Item) → cond b ended (from_offset trace at p) ≡ refused r from → (from ≡ at) × (at < length trace)
    go true o p f = absurd (let z : ◌≡◌ {A = ℕ} 0 1 = cc in omega arith)
    go false o (Took item rest) f = absurd (let z : ◌≡◌ {A = ℕ} 0 1 = cc in omega arith)
    go false o (Refuses s) f = let same : from ≡ at = cc in (same, leb-false (length trace) at o)
