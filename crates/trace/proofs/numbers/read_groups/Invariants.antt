use Rattle.std.proofs.Common.{◌+◌, drop}
use Rattle.trace.proofs.NumberRead.{Above}
use Rattle.trace.proofs.numbers.read_groups.Given as goal

abbrev pub invariant-loop-group : goal.invariant-loop-group
invariant-loop-group l = Above l.bytes l.group-iterator.iter.rest.now l.value (drop (l.last + 1) l.bytes)
