use Rattle.std.proofs.Common.{refl}
use Rattle.port.proofs.Calls.{call_keeps}
use Rattle.port.specs.declared.event.Event.TheVariants.{OutCount}
use Rattle.port.proofs.port.Port.out_count.Goals as goal

pub returns-clause-promise : goal.returns-clause-promise
returns-clause-promise g c =
    call_keeps g.M.State g.M.Memory (let m = g.met.M.Memory in record { well = m.well; reading = m.reading; writing = m.writing; stepping = m.stepping }) (OutCount c.out_count.result) c.args.self.now.below c.args.self.now.numbers c.args.self.now.below c.args.self.now.numbers (c.out_count.ensures, refl, refl)
