-- how a port and the memory below it fit the events since the opening
use Rattle.std.proofs.Common.{◌≡◌, ℕ, ◌+◌, ◌*◌, ◌<◌, ◌≤◌, true, false, List, [], map, length, Some, None, Option, slice_index}
use Rattle.line.specs.Size.{line_size}
use Rattle.list.specs.Keyed.{Distinct}
use Rattle.memory.specs.Meaning.{Facts, Fixed, Open}
use Rattle.memory.specs.Replies.{status_of, delivered}
use Rattle.memory.specs.declared.replies.Reply.{Reply}
use Rattle.port.specs.Answers.{answer_to}
use Rattle.port.specs.Limits.{most_out}
use Rattle.port.specs.Numbers.{out_number, out_at}
use Rattle.port.specs.Promise.{flat, due_to, accepted, waited, has, out, come, Promised}
use Rattle.port.specs.declared.answer.Asked.{Asked}
use Rattle.port.specs.declared.answer.Redeemed.{Redeemed}
use Rattle.port.specs.declared.event.Event.{Event}
use Rattle.port.specs.declared.numbers.NumberOut.{NumberOut}
use Rattle.port.specs.declared.numbers.Numbers.{Numbers}

-- what a reply of the memory below is to what was asked
abbrev pub shown : Asked → Reply → Redeemed
shown asked reply = answer_to asked (status_of reply) (delivered reply [])

-- a number that is out: the answer held for it is what is due to the number; or it waits, and what is due to its ticket shows that
abbrev pub Stands : Facts → List Event → Facts → ℕ → NumberOut → Option Redeemed → Type 0
Stands o log f u x (Some answer) = (due_to o log u ≡ Some answer) × (has u (come log) ≡ true)
Stands o log f u x None = ((reply : Reply) × (f.due x.ticket ≡ Some reply) × (due_to o log u ≡ Some (shown x.asked reply))) × (has u (come log) ≡ false)

-- the memory below and the numbers fit the events
pub record Fits (o : Facts) (ration : ℕ) (log : List Event) (f : Facts) (n : Numbers) : Type 0 where
  pub fixed : Fixed o f
  pub flat_is : (line i : ℕ) → line < o.lines → i < line_size → slice_index (f.contents line) i ≡ flat o log (line_size * line + i)
  pub ration_is : n.ration ≡ ration
  pub given_is : n.given ≡ accepted log
  pub within : accepted log ≤ ration
  pub out_is : map out_number n.out.items ≡ out log
  pub come_is : n.come.items ≡ come log
  pub differ : Distinct out_number n.out.items
  -- no more numbers are out than can be
  pub few : length n.out.items ≤ most_out
  pub stands : (u : ℕ) (x : NumberOut) → out_at n u ≡ Some x → Stands o log f u x x.answer
  -- tickets of numbers that wait differ, and no other ticket is open
  pub apart : (u v : ℕ) (x y : NumberOut) → out_at n u ≡ Some x → x.answer ≡ None → out_at n v ≡ Some y → y.answer ≡ None → x.ticket ≡ y.ticket → u ≡ v
  pub all : (t : ℕ) → Open f t → (u : ℕ) × (x : NumberOut) × (out_at n u ≡ Some x) × (x.answer ≡ None) × (x.ticket ≡ t)
  -- no more is owed than the accepted requests can have added, and while a ticket is open, less by the steps made since the last
  pub most : f.owed ≤ o.pace * accepted log
  pub paid : (t : ℕ) → Open f t → f.owed + waited log ≤ o.pace * accepted log

-- the promise holds of the events, and the port fits them
pub record Reached (o : Facts) (ration : ℕ) (log : List Event) (f : Facts) (n : Numbers) : Type 0 where
  pub promised : Promised o ration log
  pub fits : Fits o ration log f n
