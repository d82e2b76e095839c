-- the parts of a level's step, as far as its tables go
use Rattle.std.specs.Prelude.{◌≡◌, ℕ, ◌%◌, if◌then◌else◌, List, [], ◌∷◌, find, length, is_some, Some, None, Option, ◌==◌, ◌||◌, slice_get}
use Rattle.std.specs.Option.{option_map, option_or}
use Rattle.list.specs.Keyed.{entry_of, without, altered}
use Rattle.memory.specs.declared.replies.Answer.{Answer}
use Rattle.memory.specs.declared.replies.Fault.{Fault}
use Rattle.memory.specs.declared.replies.Status.{Status}
use Rattle.memory.specs.declared.replies.Status.TheVariants as status
use Rattle.replacement.specs.Orders.{picked}
use Rattle.replacement.specs.declared.geometry.Geometry.{Geometry}
use Rattle.level_model.specs.Limits.{most_queued, most_open}
use Rattle.level_model.specs.Registers.{register_line, queued_line, dues, bytes_after, condition_after, is_waiting, is_sent_under}
use Rattle.level_model.specs.Tables.{row_of, register_of, pushed}
use Rattle.level_model.specs.Ways.{way_at, index_for, lowest_empty, unreserved, with_way}
use Rattle.level_model.specs.declared.registers.Progress.TheVariants.{Sent}
use Rattle.level_model.specs.declared.registers.QueuedLine.{QueuedLine}
use Rattle.level_model.specs.declared.registers.Ready.{Ready}
use Rattle.level_model.specs.declared.registers.Register.{Register}
use Rattle.level_model.specs.declared.tables.Arrival.{Arrival}
use Rattle.level_model.specs.declared.tables.Fetch.{Fetch}
use Rattle.level_model.specs.declared.tables.Tables.{Tables}
use Rattle.level_model.specs.declared.ways.CachedLine.{CachedLine}
use Rattle.level_model.specs.declared.ways.Condition.{Condition}
use Rattle.level_model.specs.declared.ways.Condition.TheVariants.{Clean, Dirty}
use Rattle.level_model.specs.declared.ways.Way.{Way}
use Rattle.level_model.specs.declared.ways.Way.TheVariants.{Empty, Reserved, Filled}

-- the tables with other answers ready
abbrev pub with_ready : List Ready → Tables → Tables
with_ready xs t = record t { ready = record { items = xs } }

-- the first of a list leaves, if it has one
abbrev pub First : {X : Type 0} → List X → Option X → List X → Type 0
First before None after = (before ≡ []) × (after ≡ [])
First before (Some x) after = before ≡ x ∷ after

-- the answer that has been ready longest is taken out, if one is ready
abbrev pub Taken : Tables → Option Ready → Tables → Type 0
Taken t ready u = First t.ready.items ready u.ready.items × (u ≡ with_ready u.ready.items t)

-- the line whose register was sent under a ticket
abbrev pub line_sent : ℕ → List Register → Option ℕ
line_sent ticket rs = option_map register_line (find (λ r. is_sent_under ticket r.progress) rs)

-- the fault that a status tells
abbrev pub fault_in : Status → Option Fault
fault_in status.Line = None
fault_in status.Done = None
fault_in (status.Fault fault) = Some fault

-- an answer for a line, which a way of a set is reserved for
abbrev pub arrival_at : ℕ → ℕ → Option Fault → Option ℕ → Option Arrival
arrival_at line set fault None = None
arrival_at line set fault (Some way) = Some (record { line = line; set = set; way = way; fault = fault })

abbrev pub arrival_of : Geometry → Tables → Answer → Option ℕ → Option Arrival
arrival_of g t answer None = None
arrival_of g t answer (Some line) = arrival_at line (line % g.sets) (fault_in answer.status) (index_for line (row_of t (line % g.sets)))

-- what an answer of the memory below is to a level: it may end a register
abbrev pub arrival : Geometry → Tables → Option Answer → Option Arrival
arrival g t None = None
arrival g t (Some answer) = arrival_of g t answer (line_sent answer.ticket t.registers.items)

-- entries pushed one after another, as long as there is room
abbrev pub pushed_all : {X : Type 0} → ℕ → List X → List X → List X
pushed_all limit xs [] = xs
pushed_all limit xs (y ∷ ys) = pushed_all limit (pushed limit xs y) ys

-- what the reserved way holds once the register's targets were served
abbrev pub way_after : ℕ → Option Fault → List ℕ → Condition → Way
way_after line (Some fault) bytes condition = Empty
way_after line None bytes condition = Filled (record { line = line; bytes = bytes; condition = condition })

-- the tables once a register ended with a fault or with these bytes
abbrev pub ended : Arrival → List ℕ → Option Register → Tables → Tables
ended a bytes None t = t
ended a bytes (Some r) t = record t {
  ways = with_way a.set a.way (way_after a.line a.fault (bytes_after a.fault bytes r.targets.items) (condition_after Clean r.targets.items)) t.ways;
  registers = record { items = without register_line a.line t.registers.items };
  ready = record { items = pushed_all most_open t.ready.items (dues a.fault bytes r.targets.items) };
}

abbrev pub received : Option Arrival → List ℕ → Tables → Tables
received None bytes t = t
received (Some a) bytes t = ended a bytes (register_of t a.line) t

-- the line of the oldest register that waits, where the queue lets it go: it has room, and does not hold the line
abbrev pub may_go : List QueuedLine → Option Register → Option ℕ
may_go queue None = None
may_go queue (Some r) = if length queue == most_queued || is_some (entry_of queued_line r.line queue) then None else Some r.line

abbrev pub next_line : Tables → Option ℕ
next_line t = may_go t.queue.items (find (λ (r : Register). is_waiting r.progress) t.registers.items)

-- the way of a set that is reserved next: the lowest that is empty, else the rule's pick among those that are not reserved
abbrev pub choice : Geometry → (ℕ → List ℕ) → Tables → ℕ → Option ℕ
choice g order t set = option_or (lowest_empty g.ways (row_of t set)) (picked g.sets order set (unreserved (row_of t set)))

-- the read that is made below next
abbrev pub fetch_at : ℕ → ℕ → Option ℕ → Option Fetch
fetch_at line set None = None
fetch_at line set (Some way) = Some (record { line = line; set = set; way = way })

abbrev pub fetch_of : Geometry → (ℕ → List ℕ) → Tables → Option ℕ → Option Fetch
fetch_of g order t None = None
fetch_of g order t (Some line) = fetch_at line (line % g.sets) (choice g order t (line % g.sets))

abbrev pub fetch : Geometry → (ℕ → List ℕ) → Tables → Option Fetch
fetch g order t = fetch_of g order t (next_line t)

-- the line that is written below next
abbrev pub oldest_queued : Tables → Option QueuedLine
oldest_queued t = slice_get t.queue.items 0

-- the queue once a way is reserved that held this: a dirty line joins it
abbrev pub evicted_line : CachedLine → Condition → List QueuedLine → List QueuedLine
evicted_line held Clean queue = queue
evicted_line held Dirty queue = pushed most_queued queue (record { line = held.line; bytes = held.bytes })

abbrev pub evicted : Way → List QueuedLine → List QueuedLine
evicted Empty queue = queue
evicted (Reserved line) queue = queue
evicted (Filled held) queue = evicted_line held held.condition queue

-- the tables once a register was sent under a ticket: the way is reserved for its line
abbrev pub reserved : Fetch → ℕ → Tables → Tables
reserved a ticket t = record t {
  ways = with_way a.set a.way (Reserved a.line) t.ways;
  registers = record { items = altered register_line a.line (λ r. record r { progress = Sent ticket }) t.registers.items };
  queue = record { items = evicted (way_at t.ways a.set a.way) t.queue.items };
}

-- the tables once a queued line was written below
abbrev pub dequeued : ℕ → Tables → Tables
dequeued line t = record t { queue = record { items = without queued_line line t.queue.items } }
