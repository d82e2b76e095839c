use Rattle.std.proofs.Common.{arith}
use Rattle.line.proofs.laying.lay_on.Goals as goal
use Rattle.line.specs.Laid.{laid, laid_at}
use Rattle.std.proofs.lemmas.List.FromFn.{fill_by_all}

pub returns : goal.returns
unfolding laid
returns c =
    fill_by_all (laid_at c.args.part.now c.args.mask c.args.new) c.loop-i.part _ 0 c.loop-i.auto.part
    (λ k h. c.loop-i.invariant.0 k (omega arith))
