use Rattle.std.proofs.Common.{◌≡◌, ◌<◌, rules}
use Rattle.replacement.proofs.Once.{chosen}
use Rattle.replacement.proofs.orders.Orders.pick.Goals as goal
use Rattle.replacement.specs.Rows.{order_of}
use Rattle.replacement.specs.Orders.{first_offered}

pub returns-clause-cases : goal.returns-clause-cases
returns-clause-cases c =
    let s = c.args.self.now in
    let g = s.geometry in
    let inside : c.args.set < g.sets = search rules in
    let picked : c.map.result ≡ first_offered c.args.offered (order_of s c.args.set) = search rules in
    chosen g c.args.set c.args.offered (order_of s c.args.set) c.map.result inside (s.once c.args.set inside) picked
