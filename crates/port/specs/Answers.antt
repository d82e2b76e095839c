use Rattle.std.specs.Prelude.{ℕ, List, Some, None, Option}
use Rattle.line.specs.Values.{value_in}
use Rattle.memory.specs.declared.replies.Fault.{Fault}
use Rattle.memory.specs.declared.replies.Status.{Status}
use Rattle.memory.specs.declared.replies.Status.TheVariants as status
use Rattle.port.specs.declared.answer.Asked.{Asked}
use Rattle.port.specs.declared.answer.Asked.TheVariants.{Load, Store}
use Rattle.port.specs.declared.answer.Redeemed.{Redeemed}
use Rattle.port.specs.declared.answer.Redeemed.TheVariants.{Value, Done, Fault as Faulty}

-- what a load of a line with this fault is redeemed for: of a good line the value, of a bad one the fault
abbrev pub load_shows : Option Fault → ℕ → Redeemed
load_shows None value = Value value
load_shows (Some fault) value = Faulty fault

-- what a store to it is redeemed for: on a good line "done", on a bad one the fault
abbrev pub store_shows : Option Fault → Redeemed
store_shows None = Done
store_shows (Some fault) = Faulty fault

-- what is redeemed where the memory below answered with this status, and put these bytes into the buffer that it was lent: the fault, the
-- value that was asked for, or "done". By the laws of a memory a load is never answered "done", nor a store with a line.
abbrev pub answer_to : Asked → Status → List ℕ → Redeemed
answer_to asked (status.Fault fault) bytes = Faulty fault
answer_to (Load span) status.Line bytes = Value (value_in span.offset span.size bytes)
answer_to (Load span) status.Done bytes = Done
answer_to Store status.Line bytes = Done
answer_to Store status.Done bytes = Done
