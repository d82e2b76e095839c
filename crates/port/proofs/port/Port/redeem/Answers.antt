use Rattle.std.proofs.Common.{refl}
use Rattle.port.proofs.Calls.{call_keeps}
use Rattle.port.specs.declared.event.Event.TheVariants.{Redeem}
use Rattle.port.proofs.port.Port.redeem.Goals as goal

pub returns-clause-promise : goal.returns-clause-promise
returns-clause-promise g c =
    call_keeps g.M.State g.M.Memory (let m = g.met.M.Memory in record { well = m.well; reading = m.reading; writing = m.writing; stepping = m.stepping }) (Redeem c.args.number c.redeem.result) c.args.self.now.below c.args.self.now.numbers c.args.self.now.below c.redeem.new.self (c.redeem.ensures, refl)
