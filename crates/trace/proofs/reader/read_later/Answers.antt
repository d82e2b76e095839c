use Rattle.std.proofs.Common.{◌≡◌, false, nat_le, length, drop, sym, arith, rules}
use Rattle.std.proofs.lemmas.Bool.{lt-leb}
use Rattle.trace.specs.Decode.{decode}
use Rattle.trace.specs.Items.{item_of, empty_buffer}
use Rattle.trace.specs.Parsed.{Refuses}
use Rattle.trace.proofs.Laws.{decode_back}
use Rattle.trace.proofs.Next.{gave_back}
use Rattle.trace.proofs.Runs.{left_bytes}
use Rattle.trace.proofs.reader.read_later.Goals as goal

pub returns-in_err-record-clause-value : goal.returns-in_err-record-clause-value
returns-in_err-record-clause-value c =
    let value : Refuses c.in_err-record.field-0.0 ≡ decode false (drop c.args.offset c.args.trace.now) = c.in_err-record.ensures.value empty_buffer in
    let inside : nat_le (length c.args.trace.now) c.args.offset ≡ false = lt-leb (length c.args.trace.now) c.args.offset (omega arith) in
    search rules

pub returns-clause-read_back : goal.returns-clause-read_back
returns-clause-read_back c =
    let trace = c.args.trace.now in
    let at = c.args.offset in
    let item = item_of c.in_ok-record.record empty_buffer in
    let rest = c.in_ok-record.rest.now in
    let w = decode_back false (drop at trace) (left_bytes trace (λ k. omega (arith, c.type_inv.trace k)) at) item rest (sym (c.in_ok-record.ensures.value empty_buffer)) in
    λ inside. gave_back trace at inside item rest w.0 w.1
