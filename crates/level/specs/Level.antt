use Rattle.std.specs.Prelude.{◌≡◌, ℕ, List, Option, Result}
use Rattle.memory.specs.Gather.{facts}
use Rattle.memory.specs.Meaning.{Facts}
use Rattle.memory.specs.declared.memory.Memory as memory
use Rattle.memory.specs.declared.refusal.Refusal.{Refusal}
use Rattle.memory.specs.declared.replies.Answer.{Answer}
use Rattle.memory.specs.declared.state.State as state
use Rattle.replacement.specs.declared.rule.Replacement as rule
use Rattle.level_model.specs.Facts.{level_facts}
use Rattle.level_model.specs.Moves as moves
use Rattle.level_model.specs.declared.registers.Ask.{Ask}
use Rattle.level_model.specs.declared.registers.Ask.TheVariants.{Read, Write}
use Rattle.level_model.specs.declared.standing.Standing.{Standing}
use Rattle.level_model.specs.declared.tables.Tables.{Tables}
use Rattle.level.specs.Parts.{standing_in}
use Rattle.level.specs.declared.level.Level.{Level}

module _ {S Q : Type 0} {calls : memory.Ghosts S} {known : state.Ghosts S} {rk : rule.Ghosts Q} where
  -- the memory below a level
  abbrev pub level_below : Level S Q calls known rk → S
  level_below s = s.parts.below

  -- its rule
  abbrev pub level_rule : Level S Q calls known rk → Q
  level_rule s = s.parts.rule

  -- and its tables
  abbrev pub level_tables : Level S Q calls known rk → Tables
  level_tables s = s.parts.tables

  -- what there is to know of a level
  abbrev pub level_known : Level S Q calls known rk → Facts
  level_known s = level_facts (facts known (level_below s)) (rk.geometry (level_rule s)) (level_tables s)

  -- where a line stands in it
  abbrev pub level_standing : Level S Q calls known rk → ℕ → Standing
  level_standing s line = standing_in rk (facts known (level_below s)).lines (level_rule s) (level_tables s) line

  -- a request to it, which leaves the memory below alone
  abbrev pub LevelAsks : Level S Q calls known rk → ℕ → Ask → Result ℕ Refusal → Level S Q calls known rk → Type 0
  LevelAsks s line ask r t =
      (level_below t ≡ level_below s)
      × moves.Asks rk (facts known (level_below s)).lines (level_tables s) (level_rule s) line ask r (level_tables t) (level_rule t)

  -- a read
  abbrev pub LevelReads : Level S Q calls known rk → ℕ → Result ℕ Refusal → Level S Q calls known rk → Type 0
  LevelReads s line r t = LevelAsks s line Read r t

  -- a write
  abbrev pub LevelWrites : Level S Q calls known rk → ℕ → ℕ → List ℕ → Result ℕ Refusal → Level S Q calls known rk → Type 0
  LevelWrites s line mask new r t = LevelAsks s line (Write mask new) r t

  -- a step
  abbrev pub LevelSteps : Level S Q calls known rk → List ℕ → Option Answer → Level S Q calls known rk → List ℕ → Type 0
  LevelSteps s before r t after =
      moves.Steps rk calls (level_below s) (level_tables s) (level_rule s) before r (level_below t) (level_tables t) (level_rule t) after
