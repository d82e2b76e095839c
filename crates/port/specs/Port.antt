use Rattle.std.specs.Prelude.{ℕ, List, ◌∷◌}
use Rattle.memory.specs.Gather.{facts}
use Rattle.memory.specs.Meaning.{Idle}
use Rattle.memory.specs.declared.memory.Memory.{Ghosts}
use Rattle.memory.specs.declared.state.State as state
use Rattle.port.specs.Moves.{Moves, Runs}
use Rattle.port.specs.Numbers.{counted_ration, new_numbers}
use Rattle.port.specs.Promise.{Promised}
use Rattle.port.specs.declared.event.Event.{Event}
use Rattle.port.specs.declared.numbers.Numbers.{Numbers}
use Rattle.port.specs.declared.port.Port.{Port}

-- the memory below a port, as it is now
abbrev pub port_below : {S : Type 0} → Port S → S
port_below p = p.below

-- and its numbers
abbrev pub port_numbers : {S : Type 0} → Port S → Numbers
port_numbers p = p.numbers

module _ {S : Type 0} (st : state.Ghosts S) (k : Ghosts S) where
  -- just what a call does
  abbrev pub PortMoves : Event → Port S → Port S → Type 0
  PortMoves e p q = Moves st k e (port_below p) (port_numbers p) (port_below q) (port_numbers q)

  -- a port came to its state by these events, the latest first: it was opened with this ration on this memory, and then they were made
  abbrev pub CameBy : S → ℕ → List Event → Port S → Type 0
  CameBy start ration log p = Runs st k start (new_numbers ration) log (port_below p) (port_numbers p)

  -- the promise of a call: by whatever events the port came to its state since it was opened on an idle memory, the whole promise holds of
  -- them and this one, and by these it came to its state after the call
  abbrev pub Keeps : Event → Port S → Port S → Type 0
  Keeps e p q =
      (start : S) (ration : ℕ) (log : List Event) → Idle (facts st start) → CameBy start ration log p
      → Promised (facts st start) (counted_ration ration) (e ∷ log) × CameBy start ration (e ∷ log) q
