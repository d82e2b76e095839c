-- the hierarchy that a setup names
use Rattle.std.specs.Prelude.{◌≡◌, ℕ, ◌<◌, Bool, List, take, Some, None, Option}
use Rattle.bottom.specs.Ordered.{OrderedBegins}
use Rattle.bottom.specs.Scripted.{ScriptedBegins}
use Rattle.hierarchy.specs.AnyRule.{any_geometry, any_order}
use Rattle.hierarchy.specs.declared.any_bottom.AnyBottom.{AnyBottom}
use Rattle.hierarchy.specs.declared.any_bottom.AnyBottom.TheVariants as any_bottom
use Rattle.hierarchy.specs.declared.any_rule.AnyRule.{AnyRule}
use Rattle.hierarchy.specs.declared.any_rule.AnyRule.TheVariants as any_rule
use Rattle.memory.specs.declared.bad_line.BadLine.{BadLine}
use Rattle.replacement.specs.Orders.{first_order}
use Rattle.trace.specs.Encode.{in_limits}
use Rattle.trace.specs.Items.{item_of, script_of}
use Rattle.trace.specs.declared.records.Bottom.{Bottom}
use Rattle.trace.specs.declared.records.Bottom.TheVariants.{Ordered, Scripted}
use Rattle.trace.specs.declared.records.Level.{Level}
use Rattle.trace.specs.declared.records.Record.TheVariants as the_record
use Rattle.trace.specs.declared.records.Rule.{Rule}
use Rattle.trace.specs.declared.records.Rule.TheVariants.{Lru, Fifo}
use Rattle.trace.specs.declared.records.Setup.{Setup}
use Rattle.trace.specs.declared.records.SetupBuffer.{SetupBuffer}

-- whether the fields of a setup are within their limits
abbrev pub setup_limits : Setup → SetupBuffer → Bool
setup_limits s b = in_limits (item_of (the_record.Setup s) b)

-- the script of a setup, and its bad lines
abbrev pub setup_script : Setup → SetupBuffer → List ℕ
setup_script s b = script_of s.bottom b.script

abbrev pub setup_bad_lines : Setup → SetupBuffer → List BadLine
setup_bad_lines s b = take s.bad_line_count b.bad_lines

-- a rule is of the kind that has this name
abbrev pub IsNamed : Rule → AnyRule → Type 0
IsNamed Lru (any_rule.Lru r) = Unit {0}
IsNamed Fifo (any_rule.Fifo r) = Unit {0}
IsNamed Lru (any_rule.Fifo r) = ⊥
IsNamed Fifo (any_rule.Lru r) = ⊥

-- the rule of a level, with its sets and ways, at its beginning: each set has its ways from the lowest up
pub record NewRule (level : Level) (rule : AnyRule) : Type 0 where
  pub named : IsNamed level.rule rule
  pub sets : (any_geometry rule).sets ≡ level.sets
  pub ways : (any_geometry rule).ways ≡ level.ways
  pub order : (set : ℕ) → set < level.sets → any_order rule set ≡ first_order level.ways

-- the rule of the upper level, if there is one
abbrev pub NewUpperRule : Option Level → Option AnyRule → Type 0
NewUpperRule None None = Unit {0}
NewUpperRule (Some level) (Some rule) = NewRule level rule
NewUpperRule None (Some rule) = ⊥
NewUpperRule (Some level) None = ⊥

-- the rules of a setup's levels
abbrev pub NewRules : Setup → AnyRule → Option AnyRule → Type 0
NewRules s lowest upper = NewRule s.lowest lowest × NewUpperRule s.upper upper

-- a new memory at the bottom, with this script or latency and these bad lines; its faults name level 0
abbrev pub NewBottom : Bottom → List ℕ → List BadLine → AnyBottom → Type 0
NewBottom (Ordered latency) script bad_lines (any_bottom.Ordered memory) = OrderedBegins 0 bad_lines latency memory
NewBottom (Scripted n) script bad_lines (any_bottom.Scripted memory) = ScriptedBegins 0 bad_lines script memory
NewBottom (Ordered latency) script bad_lines (any_bottom.Scripted memory) = ⊥
NewBottom (Scripted n) script bad_lines (any_bottom.Ordered memory) = ⊥
