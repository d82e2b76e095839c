use Rattle.std.proofs.Common.{◌≡◌, ◌++◌, drop}
use Rattle.std.specs.List.{flat_map}
use Rattle.trace.specs.Encode.{bad_line_bytes}
use Rattle.trace.specs.Numbers.{spelled}
use Rattle.trace.proofs.encoding_setup.push_bad_lines.Given as goal

-- what is still to come makes up the bytes of the count and all lines
abbrev pub invariant-loop-bad : goal.invariant-loop-bad
invariant-loop-bad l = l.bytes.items ++ flat_map bad_line_bytes (drop l.bad-index l.bad-items) ≡ l.fn.bytes.items ++ (spelled l.count ++ flat_map bad_line_bytes l.bad-items)
