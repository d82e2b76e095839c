use Rattle.std.proofs.Common.{◌≡◌, false, drop, arith}
use Rattle.std.proofs.lemmas.Grind.{common_steps}
use Rattle.trace.specs.Decode.{decode}
use Rattle.trace.specs.Filled.{seen_later}
use Rattle.trace.specs.Items.{empty_buffer}
use Rattle.trace.proofs.Later.{left_inside}
use Rattle.trace.proofs.decoding.read_later_record.Goals as goal

pub returns-clause-inside : goal.returns-clause-inside
returns-clause-inside c =
    let value : seen_later empty_buffer c.read_later_front.result ≡ decode false (drop c.args.at c.args.trace.now) = grind (arith, common_steps, c.read_later_front.ensures.value empty_buffer) in
    left_inside c.args.trace.now c.args.at (λ k. omega (arith, c.type_inv.trace k)) empty_buffer c.read_later_front.result value
