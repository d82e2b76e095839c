-- what holds of a level's tables at all times, beside the facts of the memory below
use Rattle.std.specs.Prelude.{◌≡◌, ℕ, ◌%◌, ◌<◌, ◌≤◌, if◌then◌else◌, List, length, is_some, Some, None, Option, ◌==◌}
use Rattle.list.specs.Keyed.{Distinct}
use Rattle.list.specs.Totals.{total}
use Rattle.line.specs.Size.{line_size}
use Rattle.memory.specs.Meaning.{Facts}
use Rattle.memory.specs.Replies.{read_due}
use Rattle.replacement.specs.declared.geometry.Geometry.{Geometry}
use Rattle.level_model.specs.Facts.{way_of, open_of}
use Rattle.level_model.specs.Limits.{most_sets, most_ways, most_open}
use Rattle.level_model.specs.Registers.{ticket_of, register_line, queued_line, sent_in}
use Rattle.level_model.specs.Tables.{row_of, register_of, queued_of, open_count}
use Rattle.level_model.specs.Ways.{way_at, is_for, is_reserved}
use Rattle.level_model.specs.declared.registers.Progress.{Progress}
use Rattle.level_model.specs.declared.registers.Progress.TheVariants.{Waiting, Sent}
use Rattle.level_model.specs.declared.registers.QueuedLine.{QueuedLine}
use Rattle.level_model.specs.declared.registers.Register.{Register}
use Rattle.level_model.specs.declared.tables.Tables.{Tables}
use Rattle.level_model.specs.declared.ways.Condition.{Condition}
use Rattle.level_model.specs.declared.ways.Condition.TheVariants.{Clean, Dirty}
use Rattle.level_model.specs.declared.ways.Way.{Way}
use Rattle.level_model.specs.declared.ways.Way.TheVariants.{Empty, Reserved, Filled}

-- bytes of a good line that there is
abbrev pub GoodLine : Facts → ℕ → List ℕ → Type 0
GoodLine f line bytes = (line < f.lines) × (f.bad line ≡ None) × (length bytes ≡ line_size)

-- clean bytes are those below
abbrev pub ConditionKept : Condition → List ℕ → List ℕ → Type 0
ConditionKept Clean bytes below = bytes ≡ below
ConditionKept Dirty bytes below = Unit {0}

-- a line in a way is good, and neither queued nor awaited
abbrev pub WayKept : Facts → ℕ → Way → Option QueuedLine → Option Register → Type 0
WayKept f line Empty queued register = Unit {0}
WayKept f line (Reserved awaited) queued register = Unit {0}
WayKept f line (Filled held) queued register =
    GoodLine f line held.bytes × ConditionKept held.condition held.bytes (f.contents line) × (queued ≡ None) × (register ≡ None)

-- a queued line is good
abbrev pub QueuedKept : Facts → ℕ → Option QueuedLine → Type 0
QueuedKept f line None = Unit {0}
QueuedKept f line (Some queued) = GoodLine f line queued.bytes

-- what a register was sent for is due to it below, and its line is not queued
abbrev pub ProgressKept : Facts → ℕ → Progress → Option QueuedLine → Type 0
ProgressKept f line Waiting queued = Unit {0}
ProgressKept f line (Sent ticket) queued = (queued ≡ None) × (f.due ticket ≡ Some (read_due (f.bad line) (f.contents line)))

-- a register is for a line that there is, and has a target
abbrev pub RegisterKept : Facts → ℕ → Option Register → Option QueuedLine → Type 0
RegisterKept f line None queued = Unit {0}
RegisterKept f line (Some r) queued = (line < f.lines) × (1 ≤ length r.targets.items) × ProgressKept f line r.progress queued

-- the ticket under which a register was sent
abbrev pub sent_ticket : Option Register → Option ℕ
sent_ticket None = None
sent_ticket (Some r) = sent_in r.progress

-- what holds of the way of a line, of its entry in the queue and of its register
pub record LineKept (f : Facts) (line : ℕ) (way : Way) (queued : Option QueuedLine) (register : Option Register) : Type 0 where
  pub way_kept : WayKept f line way queued register
  pub queued_kept : QueuedKept f line queued
  pub register_kept : RegisterKept f line register queued
  -- a way is reserved for a line just where the line's register was sent
  pub reserved : is_reserved way ≡ is_some (sent_ticket register)

-- how many ways of a set hold a line or are reserved for it
abbrev pub ways_for : ℕ → List Way → ℕ
ways_for line ws = total (λ way. if is_for line way then 1 else 0) ws

pub record Kept (f : Facts) (g : Geometry) (t : Tables) : Type 0 where
  pub lines_kept : (line : ℕ) → LineKept f line (way_of g t line) (queued_of t line) (register_of t line)
  -- each line has one way at most, and that in its own set
  pub own_way : (set line : ℕ) → ways_for line (row_of t set) ≤ (if line % g.sets == set then 1 else 0)
  -- one register and one entry of the queue at most
  pub registers_differ : Distinct register_line t.registers.items
  pub queue_differs : Distinct queued_line t.queue.items
  -- no two registers were sent under one ticket
  pub sent_differ : (line other ticket : ℕ) → sent_ticket (register_of t line) ≡ Some ticket → sent_ticket (register_of t other) ≡ Some ticket → line ≡ other
  -- each ticket is open once, and no more are than may be
  pub tickets_differ : Distinct ticket_of (open_of f g t)
  pub few : open_count t ≤ most_open
  -- the table has all sets and all ways of each
  pub all_sets : length t.ways.sets ≡ most_sets
  pub all_ways : (set : ℕ) → set < most_sets → length (row_of t set) ≡ most_ways
  -- and holds nothing in those past the geometry's
  pub beyond : (set way : ℕ) → g.ways ≤ way → way_at t.ways set way ≡ Empty
