use Rattle.tests.proofs.Going.{Going}
use Rattle.tests.proofs.waiting.make_steps.Given as goal
use Rattle.memory.specs.Gather.{facts}
use Rattle.tests.specs.Waiting.{Any, Made}

abbrev pub invariant-loop : goal.invariant-loop
invariant-loop g l =
    Made g.M.Memory.steps Any l.counter l.initial.memory l.memory
    × Going (facts g.M.State l.initial.memory) l.counter (facts g.M.State l.memory)
