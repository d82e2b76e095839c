use Rattle.bottom.specs.OrderedLaws.{ordered_laws}
use Rattle.hierarchy.proofs.Covered.{image_holds, image_covered, well_covered}
use Rattle.hierarchy.proofs.ordered.on_ordered.Goals as goal

pub returns-clause-well : goal.returns-clause-well
returns-clause-well c =
    let idle = c.new-level.ensures.idle c.new-memory.ensures.idle in
    well_covered (well_covered (ordered_laws.well c.new-memory.result) c.new-level.ensures.covers idle) c.new-3.ensures.covers (c.new-3.ensures.idle idle)

pub returns-clause-image : goal.returns-clause-image
returns-clause-image c =
    let begins = c.new-memory.ensures.begins.0 in
    image_covered (image_covered (image_holds _ _ _ _ c.new-memory.ensures.image begins.0 begins.1) c.new-level.ensures.covers) c.new-3.ensures.covers
