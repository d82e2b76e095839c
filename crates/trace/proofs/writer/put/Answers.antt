use Rattle.std.proofs.Common.{◌≡◌, length, Ok, arith}
use Rattle.std.proofs.lemmas.Grind.{common_steps}
use Rattle.trace.specs.Writing.{adding}
use Rattle.trace.proofs.Grown.{written_whole}
use Rattle.trace.proofs.writer.put.Goals as goal

pub returns-clause-whole : goal.returns-clause-whole
returns-clause-whole c =
    let value : Ok tt ≡ adding c.args.from (length c.args.buffer.now) c.args.bytes.now = grind (arith, common_steps) in
    λ item is well ok. written_whole c.args.from c.args.buffer.now item well ok c.args.bytes.now _ (λ k. omega (arith, c.type_inv.buffer k)) is value (grind (arith, common_steps))
