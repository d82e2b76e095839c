use Rattle.std.proofs.Common.{◌≡◌, subst, arith, rules}
use Rattle.tests.proofs.waiting.read_in_steps.Goals as goal
use Rattle.tests.proofs.waiting.read_in_steps.Goals.{in-Some+else-answer-ticket, in_default}
use Rattle.tests.specs.Waiting.{Made, NotOf}
use Rattle.tests.specs.Waiting.Made.{none, more}

pub loop-init : goal.loop-init
loop-init g c = (none, search rules, search rules)

pub loop-preserved : goal.loop-preserved
loop-preserved g c =
    let other : NotOf c.in_ok-ticket.ticket c.step.result = elim c.match-step.branch [
      | in-Some+else-answer-ticket w ↦ (rw w.in-Some.is w.if-answer-ticket.false)
      | in_default w ↦ (rw w.in_default.is tt)
    ] in
    (more c.loop.invariant.0 other c.step.ensures, search rules, search rules)

pub returns-clause-steps : goal.returns-clause-steps
returns-clause-steps g c =
    let all : c.loop.counter ≡ c.args.most = omega arith in
    (c.in_ok-ticket.ticket, c.read.new.self, c.in_ok-ticket.ensures, subst (λ n. Made g.M.Memory.steps (NotOf c.in_ok-ticket.ticket) n c.read.new.self c.loop.memory) all c.loop.invariant.0, c.loop.invariant.1)
