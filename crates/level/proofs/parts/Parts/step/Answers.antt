use Rattle.std.proofs.Common.{sym, ◌∙◌}
use Rattle.level_model.proofs.Rests.{rest_steps}
use Rattle.level.proofs.parts.Parts.step.Goals as goal

pub returns-then-is_at_rest : goal.returns-then-is_at_rest
returns-then-is_at_rest g c =
    rest_steps g.M.Memory g.R.Replacement c.args.self.now.below c.step.new.self c.args.self.now.tables c.args.self.now.rule c.step.result c.step.new.buffer c.args.buffer.now (sym c.is_at_rest.ensures ∙ c.if-is_at_rest.true) c.step.ensures
