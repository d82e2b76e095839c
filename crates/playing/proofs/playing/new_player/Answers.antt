use Rattle.std.proofs.Common.{arith}
use Rattle.trace.proofs.NumberSpelled.{Bytes}
use Rattle.playing.proofs.Plays.{never_unmade}
use Rattle.playing.proofs.playing.new_player.Goals as goal

pub returns-in-Ok-clause-for_trace : goal.returns-in-Ok-clause-for_trace
returns-in-Ok-clause-for_trace c = record {
  first = c.with_buffer.result;
  first_is = c.with_buffer.ensures c.args.trace.now c.first_setup-first.ensures;
  image = c.args.image;
  makes = c.in-Ok.ensures;
}

pub returns-in-Err-clause-made : goal.returns-in-Err-clause-made
returns-in-Err-clause-made c =
    let bytes : Bytes c.args.trace.now = λ k. omega (arith, c.type_inv.trace k) in
    absurd (never_unmade c.args.trace.now bytes c.with_buffer.result c.args.image c.in-Err.field-0 (c.with_buffer.ensures c.args.trace.now c.first_setup-first.ensures) c.requires c.in-Err.ensures)
