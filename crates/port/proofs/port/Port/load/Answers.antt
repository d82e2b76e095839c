use Rattle.port.proofs.Calls.{call_keeps}
use Rattle.port.specs.declared.event.Event.TheVariants.{Load}
use Rattle.port.proofs.port.Port.load.Goals as goal

pub returns-clause-promise : goal.returns-clause-promise
returns-clause-promise g c =
    call_keeps g.M.State g.M.Memory (let m = g.met.M.Memory in record { well = m.well; reading = m.reading; writing = m.writing; stepping = m.stepping }) (Load c.args.size c.args.address c.ask_load.result) c.args.self.now.below c.args.self.now.numbers c.ask_load.new.self.below c.ask_load.new.self.numbers c.ask_load.ensures
