use Rattle.std.proofs.Common.{ap, ◌∙◌, arith, rules}
use Rattle.backing.specs.Image.{lent_bytes}
use Rattle.bottom.specs.Ordered.{ordered_image}
use Rattle.hierarchy.proofs.Covered.{image_holds, image_covered}
use Rattle.runs.proofs.on_ordered.run_on_ordered.Goals as goal

pub returns-clause-promise : goal.returns-clause-promise
returns-clause-promise c =
    let begins = c.new-memory.ensures.begins in
    let covers = c.new-level.ensures.covers in
    record {
      opened = _;
      on_image = image_covered (image_holds _ _ _ _ c.new-memory.ensures.image begins.0.0 begins.0.1) covers;
      pace_is = rw (c.new-level.ensures.below, begins.2) (omega arith);
      kept = record { events = c.run.ensures.events; recorded = c.run.ensures.recorded; promised = c.run.ensures.promise (c.new-level.ensures.idle c.new-memory.ensures.idle) };
    }

pub returns-clause-exact : goal.returns-clause-exact
returns-clause-exact c = record {
  level = c.new-level.result;
  new = search rules;
  bottom = rw c.new-level.ensures.below c.new-memory.ensures.begins;
  lent = rw c.new-level.ensures.below c.new-memory.ensures.image;
  last = c.run.result;
  ran = c.run.ensures;
  image_back = c.into_image.ensures ∙ ap (λ memory. lent_bytes (ordered_image memory)) c.into_below.ensures;
}
