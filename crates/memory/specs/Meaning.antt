use Rattle.std.specs.Prelude.{◌≡◌, ℕ, ◌+◌, ◌<◌, ◌≤◌, true, if◌then◌else◌, List, length, is_some, Some, None, Ok, Err, Option, Result, ◌==◌, ◌≢◌}
use Rattle.line.specs.Laid.{laid}
use Rattle.line.specs.Size.{line_size}
use Rattle.memory.specs.Limits.{most_lines}
use Rattle.memory.specs.Replies.{read_due, write_due, written_on, status_of, delivered}
use Rattle.memory.specs.declared.refusal.Refusal.{Refusal}
use Rattle.memory.specs.declared.refusal.Refusal.TheVariants.{NoLine, Busy}
use Rattle.memory.specs.declared.replies.Answer.{Answer}
use Rattle.memory.specs.declared.replies.Fault.{Fault}
use Rattle.memory.specs.declared.replies.Reply.{Reply}

-- the facts by which a memory is known; contents and bad lines are told, and kept by each call, of numbers that are no line too
pub record Facts : Type 0 where
  -- how many lines it has
  pub lines : ℕ
  -- the bytes of each line
  pub contents : ℕ → List ℕ
  -- the fault of each bad line
  pub bad : ℕ → Option Fault
  -- the reply that is due to each open ticket
  pub due : ℕ → Option Reply
  -- the steps that it owes
  pub owed : ℕ
  -- the most that a request adds to what is owed
  pub pace : ℕ

-- a ticket is open
abbrev pub Open : Facts → ℕ → Type 0
Open f ticket = is_some (f.due ticket) ≡ true

-- what is true of a memory at all times
pub record Well (f : Facts) : Type 0 where
  pub few : f.lines ≤ most_lines
  pub whole : (line : ℕ) → line < f.lines → length (f.contents line) ≡ line_size
  pub paced : 1 ≤ f.pace
  -- while a ticket is open a step is owed
  pub owing : (ticket : ℕ) → Open f ticket → 1 ≤ f.owed

-- nothing is open and nothing is owed
pub record Idle (f : Facts) : Type 0 where
  pub none_open : (ticket : ℕ) → f.due ticket ≡ None
  pub none_owed : f.owed ≡ 0

-- what no call changes: the lines, which of them are bad, and the pace
pub record Fixed (s t : Facts) : Type 0 where
  pub lines_stay : t.lines ≡ s.lines
  pub bad_stay : (line : ℕ) → t.bad line ≡ s.bad line
  pub pace_stays : t.pace ≡ s.pace

-- the bytes of every line are what they were
abbrev pub ContentsStay : Facts → Facts → Type 0
ContentsStay s t = (line : ℕ) → t.contents line ≡ s.contents line

-- a ticket that was not open is open now and has its reply due, no other ticket is touched, and what is owed rises by at most the pace
pub record Opened (s : Facts) (ticket : ℕ) (reply : Reply) (t : Facts) : Type 0 where
  pub fresh : s.due ticket ≡ None
  pub opened : t.due ticket ≡ Some reply
  pub others : (u : ℕ) → u ≢ ticket → t.due u ≡ s.due u
  pub raised : t.owed ≤ s.owed + s.pace

-- no fact is changed
pub record Unchanged (s t : Facts) : Type 0 where
  pub fixed : Fixed s t
  pub contents_stay : ContentsStay s t
  pub due_stays : (u : ℕ) → t.due u ≡ s.due u
  pub owed_stays : t.owed ≡ s.owed

-- a refused request changes nothing: it names no line of this memory, or it does and some ticket is open
abbrev pub Refused : Facts → ℕ → Refusal → Facts → Type 0
Refused s line NoLine t = (s.lines ≤ line) × Unchanged s t
Refused s line Busy t = (line < s.lines) × ((ticket : ℕ) × Open s ticket) × Unchanged s t

-- a read is accepted: its reply is the contents at this moment, or the line's fault
pub record ReadAccepted (s : Facts) (line ticket : ℕ) (t : Facts) : Type 0 where
  pub inside : line < s.lines
  pub fixed : Fixed s t
  pub contents_stay : ContentsStay s t
  pub opens : Opened s ticket (read_due (s.bad line) (s.contents line)) t

-- what a read means
abbrev pub ReadMeans : Facts → ℕ → Result ℕ Refusal → Facts → Type 0
ReadMeans s line (Ok ticket) t = ReadAccepted s line ticket t
ReadMeans s line (Err refusal) t = Refused s line refusal t

-- the contents after a write: a good line has the new bytes laid on, a bad one and all others stay
abbrev pub written : Facts → ℕ → ℕ → List ℕ → ℕ → List ℕ
written f line mask new k = if k == line then written_on (f.bad line) (f.contents line) (laid (f.contents line) mask new) else f.contents k

-- a write is accepted: it is laid on the contents at this moment, and its reply is "done", or the line's fault
pub record WriteAccepted (s : Facts) (line mask : ℕ) (new : List ℕ) (ticket : ℕ) (t : Facts) : Type 0 where
  pub inside : line < s.lines
  pub fixed : Fixed s t
  pub laid_on : (k : ℕ) → t.contents k ≡ written s line mask new k
  pub opens : Opened s ticket (write_due (s.bad line)) t

-- what a write means
abbrev pub WriteMeans : Facts → ℕ → ℕ → List ℕ → Result ℕ Refusal → Facts → Type 0
WriteMeans s line mask new (Ok ticket) t = WriteAccepted s line mask new ticket t
WriteMeans s line mask new (Err refusal) t = Refused s line refusal t

-- a step that answers nothing: what is owed does not rise, and falls while a ticket is open
pub record Silent (s : Facts) (before : List ℕ) (t : Facts) (after : List ℕ) : Type 0 where
  pub fixed : Fixed s t
  pub contents_stay : ContentsStay s t
  pub due_stays : (u : ℕ) → t.due u ≡ s.due u
  pub not_raised : t.owed ≤ s.owed
  pub lowered : (ticket : ℕ) → Open s ticket → t.owed < s.owed
  pub buffer_stays : after ≡ before

-- the answer and the caller's buffer show the reply that was due; nothing is answered that was not due
abbrev pub Shown : Option Reply → Answer → List ℕ → List ℕ → Type 0
Shown None a before after = ⊥
Shown (Some reply) a before after = (a.status ≡ status_of reply) × (after ≡ delivered reply before)

-- a step that answers an open ticket, which is then no longer open; what is owed falls
pub record Answered (s : Facts) (before : List ℕ) (a : Answer) (t : Facts) (after : List ℕ) : Type 0 where
  pub fixed : Fixed s t
  pub contents_stay : ContentsStay s t
  pub shown : Shown (s.due a.ticket) a before after
  pub closed : t.due a.ticket ≡ None
  pub others : (u : ℕ) → u ≢ a.ticket → t.due u ≡ s.due u
  pub lowered : t.owed < s.owed

-- what a step means
abbrev pub StepMeans : Facts → List ℕ → Option Answer → Facts → List ℕ → Type 0
StepMeans s before None t after = Silent s before t after
StepMeans s before (Some a) t after = Answered s before a t after
