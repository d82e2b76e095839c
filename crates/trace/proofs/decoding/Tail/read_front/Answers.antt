use Rattle.std.proofs.Common.{◌≡◌, false, arith}
use Rattle.std.proofs.lemmas.Grind.{common_steps}
use Rattle.trace.specs.Decode.{decode}
use Rattle.trace.specs.Parsed.{Refuses}
use Rattle.trace.proofs.decoding.Tail.read_front.Goals as goal

pub returns-in_err-record-clause-value : goal.returns-in_err-record-clause-value
returns-in_err-record-clause-value c =
    let value : Refuses c.in_err-record.field-0.0 ≡ decode false c.args.self.bytes.now = c.in_err-record.ensures.value c.args.buffer in
    grind (arith, common_steps)
