use Rattle.std.proofs.Common.{◌≡◌, ◌<◌, length, take, get_or, [], ap, ◌∙◌, rules}
use Rattle.replacement.proofs.Once.{once_moved, order_moved}
use Rattle.replacement.proofs.orders.Orders.move_to_end.Goals as goal
use Rattle.replacement.specs.Orders.{moved_to_end}

pub returns-clause-order : goal.returns-clause-order
returns-clause-order c =
    let s = c.args.self.now in
    let g = s.geometry in
    let there : c.args.set < length s.rows = search rules in
    let inside : c.args.set < g.sets = search rules in
    let below : c.args.way < g.ways = search rules in
    let long : length c.take_out.new.entries ≡ g.ways = search rules in
    let row : c.in-Some.row ≡ get_or s.rows c.args.set [] = search rules in
    let after = c.take_out.ensures.after ∙ ap (λ r. moved_to_end c.args.way (take g.ways r)) row in
    order_moved g s.rows c.args.set c.args.way _ _ long after inside below there

pub invariant_of-self : goal.invariant_of-self
invariant_of-self c =
    let s = c.args.self.now in
    let g = s.geometry in
    let there : c.args.set < length s.rows = search rules in
    let long : length c.take_out.new.entries ≡ g.ways = search rules in
    let row : c.in-Some.row ≡ get_or s.rows c.args.set [] = search rules in
    let after = c.take_out.ensures.after ∙ ap (λ r. moved_to_end c.args.way (take g.ways r)) row in
    record { once = once_moved g s.rows c.args.set c.args.way _ _ long after g.sets s.once there }
