-- a record, and the bytes that it was read from
use Rattle.std.proofs.Common.{◌≡◌, ℕ, Bool, true, List, ◌++◌, IfOk, Ok, Err, Result, sym, Bor}
use Rattle.trace.specs.declared.records.Record.{Record}
use Rattle.trace.specs.declared.refusal.Refusal.{Refusal}
use Rattle.trace.specs.declared.records.SetupBuffer.{SetupBuffer}
use Rattle.trace.specs.Decode.{decode}
use Rattle.trace.specs.Encode.{encode, in_limits}
use Rattle.trace.specs.Items.{item_of}
use Rattle.trace.specs.Parsed.{Took, parsed_as}
use Rattle.trace.proofs.Laws.{came, decode_back}
use Rattle.trace.proofs.NumberSpelled.{Bytes, took_as}
use Rattle.trace.specs.Filled.{filled, record_onto}

-- a record that was taken, in the terms of its buffer
pub read_back_of : (first : Bool) (bs : List ℕ) (p : SetupBuffer) → Bytes bs → (r : Result ((Record × SetupBuffer) × Bor (List ℕ)) Refusal) → parsed_as (λ s. (item_of s.0 s.1, s.1)) r ≡ record_onto p first bs → IfOk r (λ s. (bs ≡ encode (item_of s.0.0 s.0.1) ++ s.1.now) × (in_limits (item_of s.0.0 s.0.1) ≡ true))
read_back_of first bs p h (Err e) d = tt
read_back_of first bs p h (Ok s) d =
    let c = came (decode first bs) (λ item rest. Took (item, filled p item) rest) (item_of s.0.0 s.0.1, s.0.1) s.1.now (sym d) in
    (let d = decode_back first bs h c.0 c.1 c.2 in took_as (λ z r. (bs ≡ encode z.0 ++ r) × (in_limits z.0 ≡ true)) c.3 (d.0, d.1))
