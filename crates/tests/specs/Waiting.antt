use Rattle.std.specs.Prelude.{◌≡◌, ◌≢◌, ℕ, ◌+◌, ◌<◌, ◌≤◌, List, Some, None, Ok, Err, Option, Result}
use Rattle.memory.specs.Meaning.{Facts, Fixed, ContentsStay, Open, Refused}
use Rattle.memory.specs.Replies.{read_due, status_of, delivered}
use Rattle.memory.specs.declared.refusal.Refusal.{Refusal}
use Rattle.memory.specs.declared.replies.Answer.{Answer}
use Rattle.memory.specs.declared.replies.Status.{Status}

-- any answer of a step, or none
abbrev pub Any : Option Answer → Type 0
Any r = Unit {0}

-- an answer of a step that is not that of a ticket, or none
abbrev pub NotOf : ℕ → Option Answer → Type 0
NotOf ticket None = Unit {0}
NotOf ticket (Some a) = a.ticket ≢ ticket

-- by what a step of a kind of memory may do, one state comes from another by so many steps, each with such an answer
pub data Made {S : Type 0} (steps : S → List ℕ → Option Answer → S → List ℕ → Type 0) (such : Option Answer → Type 0) : ℕ → S → S → Type 0 where
  none : {s : S} → Made steps such 0 s s
  more : {n : ℕ} {s t u : S} {before after : List ℕ} {r : Option Answer} → Made steps such n s t → such r → steps t before r u after → Made steps such (n + 1) s u

-- what holds after a number of steps: no contents change, what is still open is due what it was due, no more is owed, and nothing is open if the steps were as many as were owed
pub record Stepped (s : Facts) (count : ℕ) (t : Facts) : Type 0 where
  pub fixed : Fixed s t
  pub contents_stay : ContentsStay s t
  pub due_stays : (u : ℕ) → Open t u → t.due u ≡ s.due u
  pub not_raised : t.owed ≤ s.owed
  pub all_answered : s.owed ≤ count → (u : ℕ) → t.due u ≡ None

-- the calls that reading a line in steps makes: the read, and, if it is taken, steps up to the first that answers it, or as many as are allowed; the buffer is lent to that one alone
module _ {S : Type 0} (reads : S → ℕ → Result ℕ Refusal → S → Type 0) (steps : S → List ℕ → Option Answer → S → List ℕ → Type 0) where
  abbrev pub ReadThenSteps : S → ℕ → ℕ → List ℕ → Result (Option Status) Refusal → S → List ℕ → Type 0
  ReadThenSteps s line most before (Err refusal) t after = reads s line (Err refusal) t × (after ≡ before)
  ReadThenSteps s line most before (Ok None) t after = (ticket : ℕ) × (taken : S) × reads s line (Ok ticket) taken × Made steps (NotOf ticket) most taken t × (after ≡ before)
  ReadThenSteps s line most before (Ok (Some status)) t after =
      (ticket : ℕ) × (taken : S) × (then : S) × (n : ℕ) × reads s line (Ok ticket) taken × Made steps (NotOf ticket) n taken then × (n < most) × steps then before (Some (record { ticket = ticket; status = status })) t after

-- a read of a line was taken under a ticket, and steps were made after it: no contents change, what else is still open is due what it was due, and what is owed rises by at most the pace
pub record Awaiting (s : Facts) (line ticket : ℕ) (t : Facts) : Type 0 where
  pub inside : line < s.lines
  pub fresh : s.due ticket ≡ None
  pub fixed : Fixed s t
  pub contents_stay : ContentsStay s t
  pub others_stay : (u : ℕ) → u ≢ ticket → Open t u → t.due u ≡ s.due u
  pub raised : t.owed ≤ s.owed + s.pace

-- what reading a line in steps comes to: the read is refused; or it is answered, with what the line held when it was taken or with its fault; or it is still open, and more steps were owed for it than were allowed
abbrev pub ReadInSteps : Facts → ℕ → ℕ → List ℕ → Result (Option Status) Refusal → Facts → List ℕ → Type 0
ReadInSteps s line most before (Err refusal) t after = Refused s line refusal t × (after ≡ before)
ReadInSteps s line most before (Ok (Some status)) t after =
    (ticket : ℕ) × Awaiting s line ticket t × (t.due ticket ≡ None) × (status ≡ status_of (read_due (s.bad line) (s.contents line))) × (after ≡ delivered (read_due (s.bad line) (s.contents line)) before)
ReadInSteps s line most before (Ok None) t after =
    (ticket : ℕ) × Awaiting s line ticket t × (t.due ticket ≡ Some (read_due (s.bad line) (s.contents line))) × (most < s.owed + s.pace) × (after ≡ before)
