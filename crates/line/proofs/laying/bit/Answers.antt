use Rattle.std.proofs.Common.{sym, ◌∙◌, arith}
use Rattle.std.proofs.lemmas.Bool.{le-ltb}
use Rattle.line.proofs.Masks.{no_high_bit}
use Rattle.line.proofs.laying.bit.Goals as goal

pub returns-else-i-lt16 : goal.returns-else-i-lt16
returns-else-i-lt16 c = le-ltb c.args.i 16 c.if-i-lt16.false ∙ sym (no_high_bit 16 c.args.mask c.args.i (omega arith) c.if-i-lt16.false)
