use Rattle.std.proofs.Common.{rules}
use Rattle.backing.specs.Open.{ticket_of}
use Rattle.backing.proofs.Kept.{ticket_left}
use Rattle.list.proofs.Distinct.{distinct_push}
use Rattle.backing.proofs.requests.Requests.accept.Goals as goal

pub returns-in_err-ticket : goal.returns-in_err-ticket
returns-in_err-ticket g c = absurd (ticket_left c.args.self.now.list.items g.row.LIMIT (rw (← c.len.ensures.value, ← c.min.ensures) c.if-len-min.false) (search rules))

pub invariant_of-self : goal.invariant_of-self
invariant_of-self g c = record {
  differ = rw c.push.ensures.items (distinct_push ticket_of _ _ c.args.self.now.differ (search rules));
  few = search rules;
}
