-- what is known of a level, from the facts of the memory below and the level's tables
use Rattle.std.specs.Prelude.{◌≡◌, ℕ, ◌+◌, ◌*◌, ◌%◌, if◌then◌else◌, List, [], ◌∷◌, ◌++◌, length, Some, None, Option}
use Rattle.std.specs.Option.{option_map}
use Rattle.list.specs.Keyed.{entry_of}
use Rattle.list.specs.Totals.{total}
use Rattle.memory.specs.Meaning.{Facts}
use Rattle.memory.specs.declared.replies.Fault.{Fault}
use Rattle.memory.specs.declared.replies.Reply.{Reply}
use Rattle.replacement.specs.declared.geometry.Geometry.{Geometry}
use Rattle.level_model.specs.Registers.{ticket_of, dues, bytes_after, is_waiting}
use Rattle.level_model.specs.Tables.{row_of, register_of, queued_of, target_count}
use Rattle.level_model.specs.Ways.{is_for}
use Rattle.level_model.specs.declared.registers.QueuedLine.{QueuedLine}
use Rattle.level_model.specs.declared.registers.Ready.{Ready}
use Rattle.level_model.specs.declared.registers.Register.{Register}
use Rattle.level_model.specs.declared.registers.Target.{Target}
use Rattle.level_model.specs.declared.tables.Tables.{Tables}
use Rattle.level_model.specs.declared.ways.Way.{Way}
use Rattle.level_model.specs.declared.ways.Way.TheVariants.{Empty, Reserved, Filled}

-- the first of these ways that holds a line or is reserved for it, or an empty one where none is
abbrev pub way_for : ℕ → List Way → Way
way_for line [] = Empty
way_for line (w ∷ ws) = if is_for line w then w else way_for line ws

-- the way of a line, in its set
abbrev pub way_of : Geometry → Tables → ℕ → Way
way_of g t line = way_for line (row_of t (line % g.sets))

-- the bytes of a line but for what its register writes: those in its way, else those in the queue, else those below
abbrev pub queued_bytes : Option QueuedLine → List ℕ → List ℕ
queued_bytes None below = below
queued_bytes (Some queued) below = queued.bytes

abbrev pub way_bytes : Way → List ℕ → List ℕ
way_bytes Empty other = other
way_bytes (Reserved line) other = other
way_bytes (Filled held) other = held.bytes

abbrev pub base : Facts → Geometry → Tables → ℕ → List ℕ
base f g t line = way_bytes (way_of g t line) (queued_bytes (queued_of t line) (f.contents line))

-- the targets of a register, if there is one
abbrev pub targets_in : Option Register → List Target
targets_in None = []
targets_in (Some r) = r.targets.items

-- what is due to the targets of registers, of lines with these faults and these bytes before them
abbrev pub dues_of : (ℕ → Option Fault) → (ℕ → List ℕ) → List Register → List Ready
dues_of bad bytes [] = []
dues_of bad bytes (r ∷ rs) = dues (bad r.line) (bytes r.line) r.targets.items ++ dues_of bad bytes rs

-- what is due to each open ticket: the answers that are ready, and what is due to the targets of each register
abbrev pub open_of : Facts → Geometry → Tables → List Ready
open_of f g t = t.ready.items ++ dues_of f.bad (base f g t) t.registers.items

abbrev pub due_in : List Ready → ℕ → Option Reply
due_in xs ticket = option_map (λ ready. ready.reply) (entry_of ticket_of ticket xs)

-- how many registers wait
abbrev pub waiting_count : List Register → ℕ
waiting_count rs = total (λ (r : Register). if is_waiting r.progress then 1 else 0) rs

-- what is known of a level: with p the pace below, a step is owed for each answer that is ready and each target, 2 p + 2 for each
-- register that waits, and p + 1 for each line in the queue
abbrev pub level_facts : Facts → Geometry → Tables → Facts
level_facts f g t = record {
  lines = f.lines;
  contents = λ line. bytes_after (f.bad line) (base f g t line) (targets_in (register_of t line));
  bad = f.bad;
  due = due_in (open_of f g t);
  owed = f.owed + length t.ready.items + target_count t.registers.items + (f.pace + f.pace + 2) * waiting_count t.registers.items + (f.pace + 1) * length t.queue.items;
  pace = f.pace + f.pace + 3;
}

-- a level that holds nothing on a memory: it has the same lines, with the same bytes and faults
pub record Covers (f h : Facts) : Type 0 where
  pub lines : h.lines ≡ f.lines
  pub contents : (line : ℕ) → h.contents line ≡ f.contents line
  pub bad : (line : ℕ) → h.bad line ≡ f.bad line
  pub pace : h.pace ≡ f.pace + f.pace + 3
