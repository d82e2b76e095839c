use Rattle.std.proofs.Common.{refl}
use Rattle.port.proofs.Calls.{call_keeps}
use Rattle.port.specs.declared.event.Event.TheVariants.{Size}
use Rattle.port.proofs.port.Port.size.Goals as goal

pub returns-clause-promise : goal.returns-clause-promise
returns-clause-promise g c =
    call_keeps g.M.State g.M.Memory (let m = g.met.M.Memory in record { well = m.well; reading = m.reading; writing = m.writing; stepping = m.stepping }) (Size c.size.result) c.args.self.now.below c.args.self.now.numbers c.args.self.now.below c.args.self.now.numbers (c.size.ensures, refl, refl)
