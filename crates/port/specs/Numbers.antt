-- the numbers that a port gives, and which are out
use Rattle.std.specs.Prelude.{◌≡◌, ℕ, ◌+◌, Bool, ◌&&◌, find, if◌then◌else◌, List, [], ◌∷◌, ◌++◌, length, is_none, min, max, Some, None, Option, Result, Ok, Err, ◌==◌, nat_le}
use Rattle.std.specs.Option.{option_map}
use Rattle.list.specs.Keyed.{entry_of, without, altered}
use Rattle.memory.specs.declared.replies.Answer.{Answer}
use Rattle.memory.specs.declared.replies.Status.{Status}
use Rattle.port.specs.Answers.{answer_to}
use Rattle.port.specs.Limits.{most_out, largest_ration}
use Rattle.port.specs.declared.answer.Asked.{Asked}
use Rattle.port.specs.declared.answer.Redeemed.{Redeemed}
use Rattle.port.specs.declared.numbers.NumberOut.{NumberOut}
use Rattle.port.specs.declared.numbers.Numbers.{Numbers}
use Rattle.port.specs.declared.refusal.Refusal.{Refusal}
use Rattle.port.specs.declared.refusal.Refusal.TheVariants.{RationUsed, TooManyOut}
use Rattle.port.specs.declared.refusal.Unredeemed.{Unredeemed}
use Rattle.port.specs.declared.refusal.Unredeemed.TheVariants.{NotOut, NotCome}

-- the ration in use: the nearer end takes the place of one that is too small or too large
abbrev pub counted_ration : ℕ → ℕ
counted_ration ration = max 1 (min ration largest_ration)

-- no number was given
abbrev pub new_numbers : ℕ → Numbers
new_numbers ration = record { ration = counted_ration ration; given = 0; out = record { items = [] }; come = record { items = [] } }

-- a number that is out is known by itself
abbrev pub out_number : NumberOut → ℕ
out_number x = x.number

-- the entry of a number, if it is out
abbrev pub out_at : Numbers → ℕ → Option NumberOut
out_at n number = entry_of out_number number n.out.items

-- why no number can be given, if none can
abbrev pub refusal_of : Numbers → Option Refusal
refusal_of n = if nat_le n.ration n.given then Some RationUsed else if length n.out.items == most_out then Some TooManyOut else None

-- the next number is given to what is asked under this ticket
abbrev pub with_given : ℕ → Asked → Numbers → Numbers
with_given ticket asked n = record n {
  given = n.given + 1;
  out = record { items = n.out.items ++ (record { number = n.given + 1; ticket = ticket; asked = asked; answer = None } ∷ []) };
}

-- whether a number waits for the answer under this ticket
abbrev pub waits_under : ℕ → NumberOut → Bool
waits_under ticket x = is_none x.answer && x.ticket == ticket

-- the number that waits for it, if one does
abbrev pub number_for : ℕ → List NumberOut → Option ℕ
number_for ticket out = option_map out_number (find (waits_under ticket) out)

-- a number whose answer has come
abbrev pub answered : Status → List ℕ → NumberOut → NumberOut
answered status bytes x = record x { answer = Some (answer_to x.asked status bytes) }

-- a number behind those whose answers came before; with sixteen there already nothing is added, which never happens in a port, since no
-- more answers have come than numbers are out
abbrev pub with_come : ℕ → List ℕ → List ℕ
with_come number come = if length come == most_out then come else come ++ (number ∷ [])

-- an answer is held for its number
abbrev pub held_for : Option ℕ → Status → List ℕ → Numbers → Numbers
held_for None status bytes n = n
held_for (Some number) status bytes n = record n {
  out = record { items = altered out_number number (answered status bytes) n.out.items };
  come = record { items = with_come number n.come.items };
}

-- the number whose answer a step of the hierarchy brings
abbrev pub answered_number : Option Answer → Numbers → Option ℕ
answered_number None n = None
answered_number (Some a) n = number_for a.ticket n.out.items

-- the numbers after that step: the answer to a number that is out is held, any other is dropped
abbrev pub held : Option Answer → List ℕ → Numbers → Numbers
held None bytes n = n
held (Some a) bytes n = held_for (number_for a.ticket n.out.items) a.status bytes n

-- a number is out no more
abbrev pub without_number : ℕ → Numbers → Numbers
without_number number n = record n {
  out = record { items = without out_number number n.out.items };
  come = record { items = without (λ k. k) number n.come.items };
}

-- a number is redeemed: refused if it is not out, then if its answer has not come
abbrev pub Redeems : ℕ → Numbers → Result Redeemed Unredeemed → Numbers → Type 0
Redeems number n (Ok answer) m = ((x : NumberOut) × (out_at n number ≡ Some x) × (x.answer ≡ Some answer)) × (m ≡ without_number number n)
Redeems number n (Err NotOut) m = (out_at n number ≡ None) × (m ≡ n)
Redeems number n (Err NotCome) m = ((x : NumberOut) × (out_at n number ≡ Some x) × (x.answer ≡ None)) × (m ≡ n)
