use Rattle.level_model.proofs.Begins.{kept_empty, covers_empty, idle_empty}
use Rattle.level.proofs.level.Level.new.Goals as goal

pub invariant_of-result : goal.invariant_of-result
invariant_of-result g c = record { kept = rw c.new.ensures (kept_empty _ _) }

pub returns-clause-covers : goal.returns-clause-covers
returns-clause-covers g c = rw c.new.ensures (covers_empty _ (g.R.Replacement.geometry c.args.rule))

pub returns-clause-idle : goal.returns-clause-idle
returns-clause-idle g c idle = rw c.new.ensures (idle_empty _ (g.R.Replacement.geometry c.args.rule) idle)
