-- the tables of a level, and what a request makes of them
use Rattle.std.specs.Prelude.{◌≡◌, ℕ, ◌+◌, Bool, false, if◌then◌else◌, List, [], ◌∷◌, ◌++◌, length, is_some, Some, None, Option, ◌==◌, ◌&&◌, ◌||◌, nat_le}
use Rattle.std.specs.List.{list_any}
use Rattle.list.specs.Keyed.{entry_of, altered}
use Rattle.list.specs.Totals.{total}
use Rattle.level_model.specs.Limits.{most_registers, most_targets, most_open}
use Rattle.level_model.specs.Registers.{ticket_of, target_ticket, register_line, queued_line, reply_to, bytes_asked, condition_asked}
use Rattle.level_model.specs.Ways.{empty_ways, row, way_at, holding, with_way}
use Rattle.level_model.specs.declared.registers.Ask.{Ask}
use Rattle.level_model.specs.declared.registers.Progress.TheVariants.{Waiting}
use Rattle.level_model.specs.declared.registers.QueuedLine.{QueuedLine}
use Rattle.level_model.specs.declared.registers.Register.{Register}
use Rattle.level_model.specs.declared.registers.Target.{Target}
use Rattle.level_model.specs.declared.tables.Path.{Path}
use Rattle.level_model.specs.declared.tables.Path.TheVariants.{Hit, Merge, Miss}
use Rattle.level_model.specs.declared.tables.Tables.{Tables}
use Rattle.level_model.specs.declared.ways.CachedLine.{CachedLine}
use Rattle.level_model.specs.declared.ways.Way.{Way}
use Rattle.level_model.specs.declared.ways.Way.TheVariants.{Empty, Reserved, Filled}

-- tables that hold nothing
abbrev pub empty_tables : Tables
empty_tables = record { ways = empty_ways; registers = record { items = [] }; queue = record { items = [] }; ready = record { items = [] } }

-- nothing is to be done: no answer is ready, no line awaited, and none queued
abbrev pub at_rest : Tables → Bool
at_rest t = (length t.ready.items == 0) && (length t.registers.items == 0) && (length t.queue.items == 0)

-- the ways of a set
abbrev pub row_of : Tables → ℕ → List Way
row_of t set = row t.ways set

-- the register of a line
abbrev pub register_of : Tables → ℕ → Option Register
register_of t line = entry_of register_line line t.registers.items

-- a line in the queue
abbrev pub queued_of : Tables → ℕ → Option QueuedLine
queued_of t line = entry_of queued_line line t.queue.items

-- how many targets all registers have
abbrev pub target_count : List Register → ℕ
target_count rs = total (λ (r : Register). length r.targets.items) rs

-- how many requests are open
abbrev pub open_count : Tables → ℕ
open_count t = length t.ready.items + target_count t.registers.items

-- whether a ticket is open
abbrev pub is_open : Tables → ℕ → Bool
is_open t ticket = is_some (entry_of ticket_of ticket t.ready.items) || list_any (λ (r : Register). is_some (entry_of target_ticket ticket r.targets.items)) t.registers.items

-- what becomes of a request for a line that is in no way, if there is room for it
abbrev pub path_by : Option Register → ℕ → Option Path
path_by (Some r) count = if length r.targets.items == most_targets then None else Some Merge
path_by None count = if count == most_registers then None else Some Miss

abbrev pub register_path : Tables → ℕ → Option Path
register_path t line = path_by (register_of t line) (length t.registers.items)

-- of a request for a line of a set: it is a hit where a way holds the line
abbrev pub path_at : Option ℕ → Option Path → Option Path
path_at None other = other
path_at (Some way) other = Some (Hit way)

abbrev pub path : Tables → ℕ → ℕ → Option Path
path t set line = if nat_le most_open (open_count t) then None else path_at (holding line (row_of t set)) (register_path t line)

-- an entry behind others, if there is room for it
abbrev pub pushed : {X : Type 0} → ℕ → List X → X → List X
pushed limit xs y = if length xs == limit then xs else xs ++ (y ∷ [])

-- one more target of a register
abbrev pub with_target : Target → Register → Register
with_target target r = record r { targets = record { items = pushed most_targets r.targets.items target } }

-- a line that a way holds, after what is asked of it
abbrev pub line_asked : CachedLine → Ask → CachedLine
line_asked held ask = record { line = held.line; bytes = bytes_asked None held.bytes ask; condition = condition_asked held.condition ask }

-- the tables after a hit on a way
abbrev pub hit_on : Way → Tables → ℕ → ℕ → ℕ → Ask → Tables
hit_on Empty t set way ticket ask = t
hit_on (Reserved line) t set way ticket ask = t
hit_on (Filled held) t set way ticket ask = record t {
  ways = with_way set way (Filled (line_asked held ask)) t.ways;
  ready = record { items = pushed most_open t.ready.items (record { ticket = ticket; reply = reply_to None held.bytes ask }) };
}

-- a register that begins with a request
abbrev pub new_register : ℕ → Target → Register
new_register line target = record { line = line; targets = record { items = target ∷ [] }; progress = Waiting }

-- the tables once a request was taken under a ticket
abbrev pub with_request : Path → Tables → ℕ → ℕ → Ask → ℕ → Tables
with_request (Hit way) t set line ask ticket = hit_on (way_at t.ways set way) t set way ticket ask
with_request Merge t set line ask ticket = record t {
  registers = record { items = altered register_line line (with_target (record { ticket = ticket; ask = ask })) t.registers.items };
}
with_request Miss t set line ask ticket = record t {
  registers = record { items = pushed most_registers t.registers.items (new_register line (record { ticket = ticket; ask = ask })) };
}

-- a request that there is room for is taken under a ticket that was not open
abbrev pub Takes : Option Path → Tables → ℕ → ℕ → Ask → ℕ → Tables → Type 0
Takes None t set line ask ticket u = ⊥
Takes (Some p) t set line ask ticket u = (is_open t ticket ≡ false) × (u ≡ with_request p t set line ask ticket)

-- a request for a line of a set: it is taken, or there is no room for it and nothing changes
abbrev pub Asked : Tables → ℕ → ℕ → Ask → Option ℕ → Tables → Type 0
Asked t set line ask (Some ticket) u = Takes (path t set line) t set line ask ticket u
Asked t set line ask None u = (path t set line ≡ None) × (u ≡ t)
