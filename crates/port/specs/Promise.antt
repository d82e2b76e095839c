-- What a port promises, of its calls since it was opened, each with its outcome, the latest first; of the lines, contents, bad lines and pace of
-- its memory at the opening; and of its ration. Nothing here knows of tickets, of levels, or of how a port works.
use Rattle.std.specs.Prelude.{◌≡◌, ℕ, zero, suc, ◌+◌, ◌-◌, ◌*◌, ◌/◌, ◌%◌, ◌≤◌, Bool, true, false, ◌&&◌, if◌then◌else◌, List, [], ◌∷◌, ◌++◌, length, is_some, is_none, Some, None, Option, Ok, Err, Result, ◌==◌, nat_le, slice_get, slice_index}
use Rattle.line.specs.Size.{line_size}
use Rattle.line.specs.Values.{covers, low_bytes}
use Rattle.list.specs.Keyed.{entry_of, without}
use Rattle.memory.specs.Meaning.{Facts}
use Rattle.memory.specs.declared.replies.Fault.{Fault}
use Rattle.port.specs.Answers.{load_shows, store_shows}
use Rattle.port.specs.Events.{given_number, redeemed_number, brought_number}
use Rattle.port.specs.Limits.{most_out}
use Rattle.port.specs.Refusals.{refusal_code, unredeemed_code}
use Rattle.port.specs.Requests.{Verdict, unlawful_code, load_verdict, store_verdict}
use Rattle.port.specs.declared.answer.Redeemed.{Redeemed}
use Rattle.port.specs.declared.event.Event.{Event}
use Rattle.port.specs.declared.event.Event.TheVariants.{Load, Store, Step, Redeem, Come, Size, RationLeft, OutCount}
use Rattle.port.specs.declared.refusal.Refusal.{Refusal}
use Rattle.port.specs.declared.refusal.Unredeemed.{Unredeemed}

-- the fault of the line that an address lies in, if that is bad
abbrev pub fault_at : Facts → ℕ → Option Fault
fault_at o address = o.bad (address / line_size)

-- the byte at an address after an event: an accepted store to a good line puts its bytes, as many as its size, from its address up
abbrev pub byte_after : Facts → Event → ℕ → ℕ → ℕ
byte_after o (Store size address value (Ok number)) a had =
    if is_none (fault_at o address) && covers address size a then slice_index (low_bytes size value) (a - address) else had
byte_after o _ a had = had

-- flat memory, a byte for each address up to the last line's end: at the opening the contents of the memory
abbrev pub flat : Facts → List Event → ℕ → ℕ
flat o [] a = slice_index (o.contents (a / line_size)) (a % line_size)
flat o (e ∷ log) a = byte_after o e a (flat o log a)

-- the value of so many bytes from an address up, the lowest first
abbrev pub value_from : (ℕ → ℕ) → ℕ → ℕ → ℕ
value_from bytes address zero = 0
value_from bytes address (suc size) = bytes address + 256 * value_from bytes (address + 1) size

-- what a number is redeemed for, settled when its request was accepted: a load shows its bytes in flat memory at that moment, a store
-- "done", and both the fault of a bad line
abbrev pub due_to : Facts → List Event → ℕ → Option Redeemed
due_to o [] u = None
due_to o (Load size address (Ok number) ∷ log) u =
    if u == number then Some (load_shows (fault_at o address) (value_from (flat o log) address size)) else due_to o log u
due_to o (Store size address value (Ok number) ∷ log) u = if u == number then Some (store_shows (fault_at o address)) else due_to o log u
due_to o (e ∷ log) u = due_to o log u

-- 1 for what is so, and 0 for what is not
abbrev pub one_if : Bool → ℕ
one_if true = 1
one_if false = 0

-- how many requests were accepted: so many numbers were given
abbrev pub accepted : List Event → ℕ
accepted [] = 0
accepted (e ∷ log) = accepted log + one_if (is_some (given_number e))

-- how many numbers were redeemed
abbrev pub redemptions : List Event → ℕ
redemptions [] = 0
redemptions (e ∷ log) = redemptions log + one_if (is_some (redeemed_number e))

-- whether this is the number sought, if there is one
abbrev pub is_number : Option ℕ → ℕ → Bool
is_number None sought = false
is_number (Some number) sought = sought == number

-- how often a number was redeemed
abbrev pub times_redeemed : ℕ → List Event → ℕ
times_redeemed u [] = 0
times_redeemed u (e ∷ log) = times_redeemed u log + one_if (is_number (redeemed_number e) u)

-- how many steps were made since the last accepted request, or since the opening
abbrev pub waited : List Event → ℕ
waited [] = 0
waited (Step outcome ∷ log) = waited log + 1
waited (e ∷ log) = if is_some (given_number e) then 0 else waited log

-- a list with a number behind the others, if there is one
abbrev pub with_number : Option ℕ → List ℕ → List ℕ
with_number None numbers = numbers
with_number (Some number) numbers = numbers ++ (number ∷ [])

-- a list without a number, if there is one
abbrev pub less_number : Option ℕ → List ℕ → List ℕ
less_number None numbers = numbers
less_number (Some number) numbers = without (λ k. k) number numbers

-- whether a list has a number
abbrev pub has : ℕ → List ℕ → Bool
has number numbers = is_some (entry_of (λ k. k) number numbers)

-- the numbers that are out, in the order in which they were given: each is out until it is redeemed
abbrev pub out : List Event → List ℕ
out [] = []
out (e ∷ log) = with_number (given_number e) (less_number (redeemed_number e) (out log))

-- those of them whose answers have come, in the order in which they came
abbrev pub come : List Event → List ℕ
come [] = []
come (e ∷ log) = with_number (brought_number e) (less_number (redeemed_number e) (come log))

-- the number of the first check that a request fails: whether it is lawful, then the ration, then how many numbers are out
abbrev pub failed_check : ℕ → List Event → Verdict → Option ℕ
failed_check ration log (Err why) = Some (unlawful_code why)
failed_check ration log (Ok lawful) = if nat_le ration (accepted log) then Some 22 else if nat_le most_out (length (out log)) then Some 21 else None

-- a request that fails a check is refused by its number; one that fails none by 23 alone, and only while a number is out
abbrev pub RefusedBy : Option ℕ → List ℕ → ℕ → Type 0
RefusedBy (Some check) numbers code = code ≡ check
RefusedBy None numbers code = (code ≡ 23) × (1 ≤ length numbers)

-- the outcome of a request: the next number, from 1, which is given only where no check fails; or why it is refused
abbrev pub MayAsk : ℕ → List Event → Verdict → Result ℕ Refusal → Type 0
MayAsk ration log verdict (Ok number) = (failed_check ration log verdict ≡ None) × (number ≡ accepted log + 1)
MayAsk ration log verdict (Err refusal) = RefusedBy (failed_check ration log verdict) (out log) (refusal_code refusal)

-- the outcome of a step: nothing, or one number that is out and whose answer had not come
abbrev pub MayStep : List Event → Option ℕ → Type 0
MayStep log None = Unit {0}
MayStep log (Some number) = (has number (out log) ≡ true) × (has number (come log) ≡ false)

-- the number of the first check that a redeem fails: whether the number is out, then whether its answer has come
abbrev pub failed_redeem : List Event → ℕ → Option ℕ
failed_redeem log number = if has number (out log) then (if has number (come log) then None else Some 25) else Some 24

-- the outcome of a redeem: what is due to the number, where no check fails; else the number of the check
abbrev pub MayRedeem : Facts → List Event → ℕ → Result Redeemed Unredeemed → Type 0
MayRedeem o log number (Ok answer) = (failed_redeem log number ≡ None) × (due_to o log number ≡ Some answer)
MayRedeem o log number (Err refusal) = failed_redeem log number ≡ Some (unredeemed_code refusal)

-- the outcome that a call may have after these events: `come` tells the number whose answer came first, if one has come
abbrev pub May : Facts → ℕ → List Event → Event → Type 0
May o ration log (Load size address outcome) = MayAsk ration log (load_verdict o.lines size address) outcome
May o ration log (Store size address value outcome) = MayAsk ration log (store_verdict o.lines size address value) outcome
May o ration log (Step outcome) = MayStep log outcome
May o ration log (Redeem number outcome) = MayRedeem o log number outcome
May o ration log (Come outcome) = outcome ≡ slice_get (come log) 0
May o ration log (Size outcome) = outcome ≡ o.lines
May o ration log (RationLeft outcome) = outcome + accepted log ≡ ration
May o ration log (OutCount outcome) = outcome ≡ length (out log)

-- what holds after any events
pub record Sound (o : Facts) (log : List Event) : Type 0 where
  -- as many numbers were given as were redeemed and are out
  pub sums : accepted log ≡ redemptions log + length (out log)
  -- each number from 1 to the last that was given was redeemed once or is out, never both; no other number was redeemed or is out
  pub once : (u : ℕ) → times_redeemed u log + one_if (has u (out log)) ≡ one_if (nat_le 1 u && nat_le u (accepted log))
  -- a number whose answer has come is out, so a redeem of it fails no check
  pub come_out : (u : ℕ) → has u (come log) ≡ true → has u (out log) ≡ true
  -- once pace × accepted steps were made since the last accepted request, the answers to all numbers out have come
  pub in_time : o.pace * accepted log ≤ waited log → (u : ℕ) → has u (out log) ≡ true → has u (come log) ≡ true

-- the whole promise: each event had an outcome that it may have after those before it, and what holds after any events held after each
abbrev pub Promised : Facts → ℕ → List Event → Type 0
Promised o ration [] = Unit {0}
Promised o ration (e ∷ log) = May o ration log e × Sound o (e ∷ log) × Promised o ration log
