use Rattle.std.specs.Prelude.{ℕ, List, Some, None, Option}
use Rattle.memory.specs.declared.refusal.Refusal.{Refusal}
use Rattle.memory.specs.declared.refusal.Refusal.TheVariants.{NoLine, Busy}
use Rattle.memory.specs.declared.replies.Fault.{Fault}
use Rattle.memory.specs.declared.replies.Reply.{Reply}
use Rattle.memory.specs.declared.replies.Reply.TheVariants as reply
use Rattle.memory.specs.declared.replies.Status.{Status}
use Rattle.memory.specs.declared.replies.Status.TheVariants as status

-- the number of a refusal
abbrev pub refusal_code : Refusal → ℕ
refusal_code NoLine = 11
refusal_code Busy = 23

-- what is due to a read of a line with these contents: its fault, if it has one, and else the contents
abbrev pub read_due : Option Fault → List ℕ → Reply
read_due None contents = reply.Line contents
read_due (Some fault) contents = reply.Fault fault

-- what is due to a write to a line: its fault, if it has one, and else "done"
abbrev pub write_due : Option Fault → Reply
write_due None = reply.Done
write_due (Some fault) = reply.Fault fault

-- the bytes of a line after a write: those written, but a line with a fault keeps the ones it had
abbrev pub written_on : Option Fault → List ℕ → List ℕ → List ℕ
written_on None had written = written
written_on (Some fault) had written = had

-- what a step tells of a reply
abbrev pub status_of : Reply → Status
status_of (reply.Line bytes) = status.Line
status_of reply.Done = status.Done
status_of (reply.Fault fault) = status.Fault fault

-- the caller's buffer after a reply: a line that was read, and else what it held before
abbrev pub delivered : Reply → List ℕ → List ℕ
delivered (reply.Line bytes) before = bytes
delivered reply.Done before = before
delivered (reply.Fault fault) before = before
