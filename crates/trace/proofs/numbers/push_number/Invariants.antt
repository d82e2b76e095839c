use Rattle.std.proofs.Common.{◌≡◌, ◌≤◌, ◌++◌}
use Rattle.trace.specs.Limits.{highest_number}
use Rattle.trace.specs.Numbers.{spelled}
use Rattle.trace.proofs.numbers.push_number.Given as goal

-- what is still to come makes up the number's bytes
abbrev pub invariant-loop-rest : goal.invariant-loop-rest
invariant-loop-rest l = (l.rest ≤ highest_number) × (l.bytes.items ++ spelled l.rest ≡ l.initial.bytes.items ++ spelled l.n)

abbrev pub decreases-loop-rest : goal.decreases-loop-rest
decreases-loop-rest l = l.rest
