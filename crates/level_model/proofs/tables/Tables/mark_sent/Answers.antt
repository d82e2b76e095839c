use Rattle.std.proofs.Common.{refl}
use Rattle.level_model.specs.Registers.{register_line}
use Rattle.level_model.specs.declared.registers.Progress.TheVariants.{Sent}
use Rattle.level_model.specs.declared.registers.Register.{Register}
use Rattle.list.proofs.Altered.{lent_altered, none_altered}
use Rattle.level_model.proofs.MoreTargets.{with_registers}
use Rattle.level_model.proofs.tables.Tables.mark_sent.Goals as goal

pub returns-in_default : goal.returns-in_default
returns-in_default c =
    let alter : Register → Register = λ r. record r { progress = Sent c.args.ticket } in
    with_registers c.args.self.now _ _ (none_altered register_line c.args.line alter c.args.self.now.registers.items c.as_slice.result.now c.as_slice.ensures.value c.in_default.ensures.index)

pub returns : goal.returns
returns c =
    let alter : Register → Register = λ r. record r { progress = Sent c.args.ticket } in
    with_registers c.args.self.now _ _ (lent_altered register_line c.args.line alter c.index-as_mut_slice-i.result _ c.args.self.now.registers.items c.as_slice.result.now c.as_mut_slice.result.now c.in-Some.i c.as_slice.ensures.value c.as_mut_slice.ensures.value c.in-Some.ensures.index refl)
