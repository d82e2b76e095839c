use Rattle.std.proofs.Common.{rules}
use Rattle.tests.proofs.waiting.make_steps.Goals as goal
use Rattle.tests.specs.Waiting.Made.{none, more}

pub loop-init : goal.loop-init
loop-init g c = (none, search rules)

pub loop-preserved : goal.loop-preserved
loop-preserved g c = let i = c.loop.invariant.1 in (more c.loop.invariant.0 tt c.step.ensures, search rules)
