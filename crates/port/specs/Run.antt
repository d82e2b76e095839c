use Rattle.std.specs.Prelude.{◌≡◌, ℕ, List, map, reverse, Some}
use Rattle.memory.specs.Gather.{facts}
use Rattle.memory.specs.Meaning.{Idle}
use Rattle.memory.specs.declared.memory.Memory.{Ghosts}
use Rattle.memory.specs.declared.state.State as state
use Rattle.port.specs.Events.{call_of}
use Rattle.port.specs.Moves.{Runs}
use Rattle.port.specs.Numbers.{counted_ration, new_numbers}
use Rattle.port.specs.Promise.{Promised}
use Rattle.port.specs.declared.event.Call.{Call}
use Rattle.port.specs.declared.event.Event.{Event}
use Rattle.port.specs.declared.numbers.Numbers.{Numbers}
use Rattle.port.specs.declared.run.Entry.{Entry}

-- the call of an entry
abbrev pub entry_call : Entry → Call
entry_call x = x.call

-- an entry whose call was made
abbrev pub made : Event → Entry
made e = record { call = call_of e; event = Some e }

-- these events are the calls of the entries, in their order, and each stands beside its call afterwards
abbrev pub Recorded : List Entry → List Event → List Entry → Type 0
Recorded before events after = (map call_of events ≡ map entry_call before) × (after ≡ map made events)

module _ {S : Type 0} (st : state.Ghosts S) (k : Ghosts S) where
  -- a run of the calls of entries, on a memory with a ration
  pub record Ran (b : S) (ration : ℕ) (before after : List Entry) (c : S) : Type 0 where
    -- what became of the calls, in their order
    pub events : List Event
    pub recorded : Recorded before events after
    -- just how they were made, from new numbers on, up to the memory that is given back
    pub numbers : Numbers
    pub runs : Runs st k b (new_numbers ration) (reverse events) c numbers
    -- and the whole promise, if the memory was idle
    pub promise : Idle (facts st b) → Promised (facts st b) (counted_ration ration) (reverse events)
