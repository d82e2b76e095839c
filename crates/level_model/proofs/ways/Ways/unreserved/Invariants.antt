use Rattle.std.proofs.Common.{◌≡◌, ◌++◌, List}
use Rattle.level_model.specs.Ways.{row, unreserved}
use Rattle.level_model.specs.declared.ways.Way.{Way}
use Rattle.level_model.proofs.ways.Ways.unreserved.Given as goal

-- the mask is that of the ways that were seen, which are the last ones
abbrev pub invariant-loop-way : goal.invariant-loop-way
invariant-loop-way l = (seen : List Way) × (l.way-iterator.iter.rest.now ++ seen ≡ row l.self l.set) × (l.mask ≡ unreserved seen)
