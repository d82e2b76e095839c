use Rattle.std.proofs.Common.{rules, sym, ap, ◌∙◌}
use Rattle.std.proofs.lemmas.List.{with_items_is}
use Rattle.port_calls.proofs.Carried.{carried}
use Rattle.port_calls.proofs.running.run_scenario.Goals as goal
use Rattle.port_calls.proofs.running.run_scenario.Goals.{in-OnOrdered+in_ok-geometry-in-OnOrdered, in-OnScripted+in_ok-geometry-in-OnScripted+in_ok-geometry-in-OnScripted-2}

pub returns : goal.returns
returns c = elim c.match-scenario.branch [
  | in-OnOrdered+in_ok-geometry-in-OnOrdered w ↦
      let written = ap (λ entries. entries.items) w.entries-is ∙ with_items_is c.in_ok-entries.entries w.run_on_ordered.new.entries (search rules) in
      record { image = c.in_ok-image.image.items; is_image = search rules; kept = carried (search rules) (search rules) (search rules) (sym written) w.run_on_ordered.ensures.promise }
  | in-OnScripted+in_ok-geometry-in-OnScripted+in_ok-geometry-in-OnScripted-2 w ↦
      let written = ap (λ entries. entries.items) w.entries-is ∙ with_items_is c.in_ok-entries.entries w.run_on_scripted.new.entries (search rules) in
      record { image = c.in_ok-image.image.items; is_image = search rules; kept = carried (search rules) (search rules) (search rules) (sym written) w.run_on_scripted.ensures.promise }
]
