use Rattle.std.proofs.Common.{◌≡◌, get_or, rules}
use Rattle.level_model.specs.Limits.{most_targets}
use Rattle.level_model.specs.Registers.{register_line}
use Rattle.level_model.specs.Tables.{pushed, with_target}
use Rattle.level_model.specs.declared.registers.Register.{Register}
use Rattle.list.proofs.Altered.{lent_altered, none_altered}
use Rattle.level_model.proofs.MoreTargets.{more_targets, with_registers}
use Rattle.level_model.proofs.tables.Tables.merge.Goals as goal

pub returns-in_default : goal.returns-in_default
returns-in_default c =
    with_registers c.args.self.now _ _ (none_altered register_line c.args.line (with_target c.args.target) c.args.self.now.registers.items c.as_slice.result.now c.as_slice.ensures.value c.in_default.ensures.index)

pub returns : goal.returns
returns c =
    let r : Register = get_or c.as_mut_slice.result.now c.in-Some.i c.index-as_mut_slice-i.result in
    let more : c.try_push.new.self.items ≡ pushed most_targets r.targets.items c.args.target = search rules in
    with_registers c.args.self.now _ _ (lent_altered register_line c.args.line (with_target c.args.target) c.index-as_mut_slice-i.result _ c.args.self.now.registers.items c.as_slice.result.now c.as_mut_slice.result.now c.in-Some.i c.as_slice.ensures.value c.as_mut_slice.ensures.value c.in-Some.ensures.index (more_targets r c.args.target c.try_push.new.self.items more))
