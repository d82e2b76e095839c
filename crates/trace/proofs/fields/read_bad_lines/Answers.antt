use Rattle.std.proofs.Common.{◌<◌, length, sym, ap, ◌∙◌, arith}
use Rattle.std.proofs.lemmas.List.{length-set}
use Rattle.std.proofs.lemmas.Result.{err_from_is_err_and}
use Rattle.trace.specs.Parsed.{Took, and_then}
use Rattle.trace.specs.Filled.{onto}
use Rattle.trace.proofs.Filling.{left_refused, left_more}
use Rattle.trace.proofs.fields.read_bad_lines.Goals as goal

pub returns-in_err-bad : goal.returns-in_err-bad
returns-in_err-bad c =
    let p = err_from_is_err_and c.from_residual.result c.from_residual.ensures.1 in
    rw (p.1, p.2)
    (ap (λ q. and_then q (λ bad rest. Took (onto bad c.args.buffer) rest))
    (sym (left_refused c.args.count c.loop-slot.slot-index c.loop-slot.left.now c.loop-slot.slot-items (omega arith) c.in_err-bad.field-0.0 (sym c.in_err-bad.ensures)) ∙ c.loop-slot.invariant.0))

pub loop-slot-preserved : goal.loop-slot-preserved
loop-slot-preserved c =
    let here : c.loop-slot.slot-index < length c.loop-slot.slot-items = omega arith in (
      left_more c.args.count c.loop-slot.slot-index c.loop-slot.left.now c.loop-slot.slot-items (omega arith) c.in_ok-bad.bad c.in_ok-bad.rest.now here (sym c.in_ok-bad.ensures) ∙ c.loop-slot.invariant.0,
      length-set c.loop-slot.slot-items c.loop-slot.slot-index c.in_ok-bad.bad ∙ c.loop-slot.invariant.1,
    )
