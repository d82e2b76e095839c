use Rattle.std.proofs.Common.{refl}
use Rattle.port.proofs.Calls.{call_keeps}
use Rattle.port.specs.declared.event.Event.TheVariants.{RationLeft}
use Rattle.port.proofs.port.Port.ration_left.Goals as goal

pub returns-clause-promise : goal.returns-clause-promise
returns-clause-promise g c =
    call_keeps g.M.State g.M.Memory (let m = g.met.M.Memory in record { well = m.well; reading = m.reading; writing = m.writing; stepping = m.stepping }) (RationLeft c.ration_left.result) c.args.self.now.below c.args.self.now.numbers c.args.self.now.below c.args.self.now.numbers (c.ration_left.ensures, refl, refl)
