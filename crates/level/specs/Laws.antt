use Rattle.memory.specs.Gather.{facts}
use Rattle.memory.specs.Laws.{Laws}
use Rattle.memory.specs.declared.memory.Memory as memory
use Rattle.memory.specs.declared.state.State as state
use Rattle.replacement.specs.Laws.{Once}
use Rattle.replacement.specs.declared.rule.Replacement as rule
use Rattle.level_model.proofs.Laws.{well_holds, read_means, write_means, step_means}
use Rattle.level.specs.Level.{level_below, level_rule, level_tables, level_known, LevelReads, LevelWrites, LevelSteps}

module _ {S Q : Type 0} {calls : memory.Ghosts S} {known : state.Ghosts S} {rk : rule.Ghosts Q} where
  -- a level over a memory that keeps the laws of a memory keeps them too
  pub level_laws : Once rk → Laws (facts known) calls.reads calls.writes calls.steps → Laws (level_known {calls = calls} {known = known} {rk = rk}) LevelReads LevelWrites LevelSteps
  level_laws once laws = record {
    well = λ s. well_holds known calls laws rk once (level_below s) (level_tables s) (level_rule s) s.kept;
    reading = λ s t line r moved. (read_means known calls laws rk once (level_below s) (level_below t) (level_tables s) (level_tables t) (level_rule s) (level_rule t) line r s.kept moved).1;
    writing = λ s t line mask new r moved. (write_means known calls laws rk once (level_below s) (level_below t) (level_tables s) (level_tables t) (level_rule s) (level_rule t) line mask new r s.kept moved).1;
    stepping = λ s t before after r moved. (step_means known calls laws rk once (level_below s) (level_below t) (level_tables s) (level_tables t) (level_rule s) (level_rule t) before after r s.kept moved).1;
  }
