use Rattle.std.specs.Prelude.{ℕ, ◌%◌, if◌then◌else◌, nat_lt}
use Rattle.replacement.specs.declared.rule.Replacement as rule
use Rattle.level_model.specs.Standing.{nowhere, standing}
use Rattle.level_model.specs.declared.standing.Standing.{Standing}
use Rattle.level_model.specs.declared.tables.Tables.{Tables}

-- where a line stands in a level with so many lines: nowhere if there is no such line
abbrev pub standing_in : {Q : Type 0} → rule.Ghosts Q → ℕ → Q → Tables → ℕ → Standing
standing_in rk lines p t line = if nat_lt line lines then standing t (line % (rk.geometry p).sets) line else nowhere
