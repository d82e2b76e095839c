use Rattle.std.proofs.Common.{sym, refl, subst}
use Rattle.player.specs.Lines.{shown_line}
use Rattle.player.specs.Session.{ItemDoes}
use Rattle.player.specs.declared.session.Session.{Session}
use Rattle.trace.specs.Items.{item_of, empty_buffer}
use Rattle.player.proofs.session.Session.take.Goals as goal

pub returns-in-Load-clause-does : goal.returns-in-Load-clause-does
returns-in-Load-clause-does c =
    let d : Session = record { port = c.load-outcome.new.self; progress = c.args.self.now.progress } in
    subst (λ r. ItemDoes (item_of r empty_buffer) c.args.offset c.args.self.now (shown_line c.settle.result) c.settle.new.self) (sym c.in-Load.is)
    (c.load-outcome.result, d, c.load-outcome.ensures.moves, refl, c.settle.ensures.does)

pub returns-in-Store-clause-does : goal.returns-in-Store-clause-does
returns-in-Store-clause-does c =
    let d : Session = record { port = c.store-outcome.new.self; progress = c.args.self.now.progress } in
    subst (λ r. ItemDoes (item_of r empty_buffer) c.args.offset c.args.self.now (shown_line c.settle-in-Store.result) c.settle-in-Store.new.self) (sym c.in-Store.is)
    (c.store-outcome.result, d, c.store-outcome.ensures.moves, refl, c.settle-in-Store.ensures.does)
