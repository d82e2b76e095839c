-- what is kept of a level's tables is shown in one way at most
use Rattle.std.specs.Prelude.{◌≡◌, ℕ, List, [], ◌∷◌, None, Some, Option}
use Rattle.std.proofs.Props.{props}
use Rattle.std.specs.Coded.{×_prop, Unit-prop}
use Rattle.list.specs.Keyed.{entry_of, Distinct}
use Rattle.memory.specs.Meaning.{Facts}
use Rattle.replacement.specs.declared.geometry.Geometry.{Geometry}
use Rattle.level_model.specs.Kept.{GoodLine, ConditionKept, WayKept, QueuedKept, ProgressKept, RegisterKept, LineKept, Kept}
use Rattle.level_model.specs.Registers.{ticket_of, register_line, queued_line}
use Rattle.level_model.specs.declared.registers.Progress.{Progress}
use Rattle.level_model.specs.declared.registers.Progress.TheVariants.{Waiting, Sent}
use Rattle.level_model.specs.declared.registers.QueuedLine.{QueuedLine}
use Rattle.level_model.specs.declared.registers.Ready.{Ready}
use Rattle.level_model.specs.declared.registers.Register.{Register}
use Rattle.level_model.specs.declared.tables.Tables.{Tables}
use Rattle.level_model.specs.declared.ways.Condition.{Condition}
use Rattle.level_model.specs.declared.ways.Condition.TheVariants.{Clean, Dirty}
use Rattle.level_model.specs.declared.ways.Way.{Way}
use Rattle.level_model.specs.declared.ways.Way.TheVariants.{Empty, Reserved, Filled}

none_ready : (r : Option Ready) → IsProp (r ≡ None)
none_ready r = hlevel props

none_register : (r : Option Register) → IsProp (r ≡ None)
none_register r = hlevel props

none_queued : (r : Option QueuedLine) → IsProp (r ≡ None)
none_queued r = hlevel props

bytes_prop : (x y : List ℕ) → IsProp (x ≡ y)
bytes_prop x y = hlevel props

tickets_prop : (xs : List Ready) → IsProp (Distinct ticket_of xs)
tickets_prop [] = Unit-prop
tickets_prop (x ∷ xs) = ×_prop (none_ready (entry_of ticket_of x.ticket xs)) (tickets_prop xs)

registers_prop : (xs : List Register) → IsProp (Distinct register_line xs)
registers_prop [] = Unit-prop
registers_prop (x ∷ xs) = ×_prop (none_register (entry_of register_line x.line xs)) (registers_prop xs)

queue_prop : (xs : List QueuedLine) → IsProp (Distinct queued_line xs)
queue_prop [] = Unit-prop
queue_prop (x ∷ xs) = ×_prop (none_queued (entry_of queued_line x.line xs)) (queue_prop xs)

good_prop : (f : Facts) (line : ℕ) (bytes : List ℕ) → IsProp (GoodLine f line bytes)
good_prop f line bytes = hlevel props

condition_prop : (condition : Condition) (bytes below : List ℕ) → IsProp (ConditionKept condition bytes below)
condition_prop Clean bytes below = bytes_prop bytes below
condition_prop Dirty bytes below = Unit-prop

way_prop : (f : Facts) (line : ℕ) (way : Way) (queued : Option QueuedLine) (register : Option Register) → IsProp (WayKept f line way queued register)
way_prop f line Empty queued register = Unit-prop
way_prop f line (Reserved awaited) queued register = Unit-prop
way_prop f line (Filled held) queued register = hlevel (props, condition_prop)

queued_prop : (f : Facts) (line : ℕ) (queued : Option QueuedLine) → IsProp (QueuedKept f line queued)
queued_prop f line None = Unit-prop
queued_prop f line (Some queued) = good_prop f line queued.bytes

progress_prop : (f : Facts) (line : ℕ) (progress : Progress) (queued : Option QueuedLine) → IsProp (ProgressKept f line progress queued)
progress_prop f line Waiting queued = Unit-prop
progress_prop f line (Sent ticket) queued = hlevel props

register_prop : (f : Facts) (line : ℕ) (register : Option Register) (queued : Option QueuedLine) → IsProp (RegisterKept f line register queued)
register_prop f line None queued = Unit-prop
register_prop f line (Some r) queued = hlevel (props, progress_prop)

line_prop : (f : Facts) (line : ℕ) (way : Way) (queued : Option QueuedLine) (register : Option Register) → IsProp (LineKept f line way queued register)
line_prop f line way queued register = hlevel (props, way_prop, queued_prop, register_prop)

-- all that is kept
pub Kept-prop : (f : Facts) (g : Geometry) (t : Tables) → IsProp (Kept f g t)
Kept-prop f g t = hlevel (props, line_prop, registers_prop, queue_prop, tickets_prop)
