use Rattle.port.proofs.Made.{Going}
use Rattle.port.proofs.run.run.Given as goal

abbrev pub invariant-loop-entry : goal.invariant-loop-entry
invariant-loop-entry g l = Going g.M.State g.M.Memory l.fn.memory l.fn.ration l.fn.entries l.entry-index l.entries l.port
