use Rattle.std.proofs.Common.{◌≡◌}
use Rattle.tests.proofs.Pending.{Pending}
use Rattle.tests.proofs.waiting.read_in_steps.Given as goal
use Rattle.memory.specs.Gather.{facts}
use Rattle.tests.specs.Waiting.{Made, NotOf}

abbrev pub invariant-loop : goal.invariant-loop
invariant-loop g l =
    Made g.M.Memory.steps (NotOf l.ticket) l.counter l.initial.memory l.memory
    × (l.buffer ≡ l.fn.buffer)
    × Pending (facts g.M.State l.fn.memory) l.line l.ticket l.counter (facts g.M.State l.memory)
