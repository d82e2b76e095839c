-- the calls of a port, each with its outcome
use Rattle.std.specs.Prelude.{ℕ, Some, None, Option, Ok}
use Rattle.port.specs.declared.event.Call.{Call}
use Rattle.port.specs.declared.event.Call.TheVariants as call
use Rattle.port.specs.declared.event.Event.{Event}
use Rattle.port.specs.declared.event.Event.TheVariants.{Load, Store, Step, Redeem, Come, Size, RationLeft, OutCount}

-- the call of an event
abbrev pub call_of : Event → Call
call_of (Load size address outcome) = call.Load size address
call_of (Store size address value outcome) = call.Store size address value
call_of (Step outcome) = call.Step
call_of (Redeem number outcome) = call.Redeem number
call_of (Come outcome) = call.Come
call_of (Size outcome) = call.Size
call_of (RationLeft outcome) = call.RationLeft
call_of (OutCount outcome) = call.OutCount

-- the number that an accepted request is given
abbrev pub given_number : Event → Option ℕ
given_number (Load size address (Ok number)) = Some number
given_number (Store size address value (Ok number)) = Some number
given_number _ = None

-- the number that a redeem gives the answer to
abbrev pub redeemed_number : Event → Option ℕ
redeemed_number (Redeem number (Ok answer)) = Some number
redeemed_number _ = None

-- the number that a step brings the answer to
abbrev pub brought_number : Event → Option ℕ
brought_number (Step outcome) = outcome
brought_number _ = None
