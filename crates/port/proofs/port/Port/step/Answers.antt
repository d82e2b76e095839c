use Rattle.port.proofs.Calls.{call_keeps}
use Rattle.port.specs.declared.event.Event.TheVariants.{Step}
use Rattle.port.proofs.port.Port.step.Goals as goal

pub returns-clause-promise : goal.returns-clause-promise
returns-clause-promise g c =
    call_keeps g.M.State g.M.Memory (let m = g.met.M.Memory in record { well = m.well; reading = m.reading; writing = m.writing; stepping = m.stepping }) (Step c.advance.result) c.args.self.now.below c.args.self.now.numbers c.advance.new.self.below c.advance.new.self.numbers c.advance.ensures
