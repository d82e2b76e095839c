use Rattle.std.proofs.Common.{sym, ◌∙◌, rules}
use Rattle.list.proofs.Removed.{goes, stays, turned}
use Rattle.list.proofs.keyed.take_out.Goals as goal

pub returns-in_err-i-clause-after : goal.returns-in_err-i-clause-after
returns-in_err-i-clause-after g c = sym (stays g.T.Keyed.key c.args.sought c.args.entries.now (sym c.in_err-i.ensures.index)).2

-- searched for, so that another body fails at what it leaves
pub returns-clause-after : goal.returns-clause-after
returns-clause-after g c =
    let s = goes g.T.Keyed.key c.args.sought c.args.entries.now c.in_ok-i.i (sym c.in_ok-i.ensures.index) in
    let after = turned c.args.entries.now c.rotate_left.new.self c.in_ok-i.i (search rules) ∙ sym s.4 in
    search rules
