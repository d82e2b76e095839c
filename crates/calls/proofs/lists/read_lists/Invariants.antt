use Rattle.std.proofs.Common.{[], map}
use Rattle.calls.specs.Lists.{AddsLines}
use Rattle.calls.proofs.lists.read_lists.Given as goal

-- the lists of the lines so far
abbrev pub invariant-loop-index : goal.invariant-loop-index
invariant-loop-index l = AddsLines (map (λ numbered. numbered.1.now) l.yielded) [] l.lists.items
