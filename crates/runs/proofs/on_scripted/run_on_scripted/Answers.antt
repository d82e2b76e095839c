use Rattle.std.proofs.Common.{ap, ◌∙◌}
use Rattle.backing.specs.Image.{lent_bytes}
use Rattle.bottom.specs.Scripted.{scripted_image}
use Rattle.level.specs.Level.{level_below}
use Rattle.runs.proofs.on_scripted.run_on_scripted.Goals as goal

pub returns-clause-exact : goal.returns-clause-exact
returns-clause-exact c = record {
  levels = c.on_scripted-levels.result;
  new_upper = c.on_scripted-levels.ensures.upper;
  new_lower = c.on_scripted-levels.ensures.lower;
  bottom = c.on_scripted-levels.ensures.bottom;
  lent = c.on_scripted-levels.ensures.lent;
  last = c.run.result;
  ran = c.run.ensures;
  image_back = c.into_image.ensures ∙ ap (λ memory. lent_bytes (scripted_image memory)) (c.into_below-2.ensures ∙ ap level_below c.into_below.ensures);
}
