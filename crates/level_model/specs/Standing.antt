use Rattle.std.specs.Prelude.{ℕ, Bool, false, length, is_some, Some, None, Option}
use Rattle.level_model.specs.Facts.{targets_in}
use Rattle.level_model.specs.Registers.{is_waiting}
use Rattle.level_model.specs.Tables.{row_of, register_of, queued_of}
use Rattle.level_model.specs.Ways.{way_at, holding}
use Rattle.level_model.specs.declared.registers.Register.{Register}
use Rattle.level_model.specs.declared.standing.Standing.{Standing}
use Rattle.level_model.specs.declared.tables.Tables.{Tables}
use Rattle.level_model.specs.declared.ways.Condition.{Condition}
use Rattle.level_model.specs.declared.ways.Condition.TheVariants.{Clean}
use Rattle.level_model.specs.declared.ways.Way.{Way}
use Rattle.level_model.specs.declared.ways.Way.TheVariants.{Empty, Reserved, Filled}

-- a line that stands nowhere
abbrev pub nowhere : Standing
nowhere = record { way = None; condition = Clean; targets = 0; waits = false; queued = false }

-- whether the memory below holds the bytes of what is in a way
abbrev pub condition_of : Way → Condition
condition_of Empty = Clean
condition_of (Reserved line) = Clean
condition_of (Filled held) = held.condition

abbrev pub condition_at : Tables → ℕ → Option ℕ → Condition
condition_at t set None = Clean
condition_at t set (Some way) = condition_of (way_at t.ways set way)

-- whether a register waits
abbrev pub waits : Option Register → Bool
waits None = false
waits (Some r) = is_waiting r.progress

-- where a line of a set stands
abbrev pub standing : Tables → ℕ → ℕ → Standing
standing t set line = record {
  way = holding line (row_of t set);
  condition = condition_at t set (holding line (row_of t set));
  targets = length (targets_in (register_of t line));
  waits = waits (register_of t line);
  queued = is_some (queued_of t line);
}
