use Rattle.std.proofs.Common.{◌≡◌, ◌-◌, length, take}
use Rattle.trace.specs.Decode.{bad_lines}
use Rattle.trace.proofs.Filling.{Left}
use Rattle.trace.proofs.fields.read_bad_lines.Given as goal

abbrev pub invariant-loop-slot : goal.invariant-loop-slot
invariant-loop-slot l =
    (Left (l.count - l.slot-index) l.left (take l.slot-index l.slot-items) ≡ bad_lines l.count l.bytes)
    × (length l.slot-items ≡ l.count)
