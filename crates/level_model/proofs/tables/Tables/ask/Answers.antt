use Rattle.std.proofs.Common.{◌≡◌, Some, rules}
use Rattle.memory.specs.Tickets.{AllOpenBelow, ticket_count}
use Rattle.level_model.specs.Tables.{is_open, path}
use Rattle.level_model.proofs.OpenTickets.{room_open, some_unopened}
use Rattle.level_model.proofs.tables.Tables.ask.Goals as goal

pub returns-in_err-ticket : goal.returns-in_err-ticket
returns-in_err-ticket c =
    let t = c.args.self.now in
    let room : path t c.args.set c.args.line ≡ Some c.in_ok-path.path = search rules in
    let all : AllOpenBelow (is_open t) ticket_count = search rules in
    absurd (some_unopened t (room_open t c.args.set c.args.line c.in_ok-path.path room) all)
