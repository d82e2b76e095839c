use Rattle.player.proofs.Records.{end_step}
use Rattle.player.proofs.session.Session.finish.Goals as goal

pub returns-then-out_count-gt0-clause-does : goal.returns-then-out_count-gt0-clause-does
returns-then-out_count-gt0-clause-does c =
    (c.out_count.result, c.out_count.ensures.moves, end_step c.args.self.now c.step.new.self c.out_count.result c.if-out_count-gt0.true c.step.ensures)
