use Rattle.std.proofs.Common.{◌∙◌}
use Rattle.tests.proofs.Firsts.{victim}
use Rattle.tests.proofs.victims.next_victim.Goals as goal

pub returns-clause-value : goal.returns-clause-value
returns-clause-value g c =
    let rule = c.args.rule.now in
    let k = g.R.Replacement in
    c.pick.ensures.value ∙ victim (k.geometry rule) c.args.set (k.order rule) (g.met.R.Replacement.once rule c.args.set)
