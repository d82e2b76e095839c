use Rattle.std.proofs.Common.{◌+◌, drop, sym, ap, ◌∙◌, subst, rules}
use Rattle.trace.specs.Numbers.{or_refused}
use Rattle.trace.proofs.NumberRead.{Above, last_is_above, group_is_below, group_is_refused}
use Rattle.trace.proofs.numbers.read_groups.Goals as goal

pub loop-group-init : goal.loop-group-init
loop-group-init c = search (rules, last_is_above)

pub returns-in_err-value : goal.returns-in_err-value
returns-in_err-value c =
    let a = subst (λ l. Above c.args.bytes.now l c.loop-group.value (drop (c.args.last + 1) c.args.bytes.now)) c.in-Some.ensures.steps c.loop-group.invariant in
    ap (λ o. or_refused o (drop (c.args.last + 1) c.args.bytes.now)) c.from_residual.ensures
    ∙ sym (group_is_refused c.args.bytes.now c.next.new.self.iter.rest.now c.in-Some.group.now c.loop-group.value (drop (c.args.last + 1) c.args.bytes.now) a (sym c.in_err-value.ensures))

pub loop-group-preserved : goal.loop-group-preserved
loop-group-preserved c = search (rules, group_is_below)
