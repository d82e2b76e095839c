use Rattle.std.specs.Prelude.{ℕ, Bool, true, false, List, [], ◌∷◌, Some, None, Option, ◌==◌}
use Rattle.line.specs.Laid.{laid}
use Rattle.memory.specs.Replies.{read_due, write_due, written_on}
use Rattle.memory.specs.declared.replies.Fault.{Fault}
use Rattle.memory.specs.declared.replies.Reply.{Reply}
use Rattle.level_model.specs.declared.registers.Ask.{Ask}
use Rattle.level_model.specs.declared.registers.Ask.TheVariants.{Read, Write}
use Rattle.level_model.specs.declared.registers.Progress.{Progress}
use Rattle.level_model.specs.declared.registers.Progress.TheVariants.{Waiting, Sent}
use Rattle.level_model.specs.declared.registers.QueuedLine.{QueuedLine}
use Rattle.level_model.specs.declared.registers.Ready.{Ready}
use Rattle.level_model.specs.declared.registers.Register.{Register}
use Rattle.level_model.specs.declared.registers.Target.{Target}
use Rattle.level_model.specs.declared.ways.Condition.{Condition}
use Rattle.level_model.specs.declared.ways.Condition.TheVariants.{Dirty}

-- the key of each kind of entry
abbrev pub ticket_of : Ready → ℕ
ticket_of ready = ready.ticket

abbrev pub target_ticket : Target → ℕ
target_ticket target = target.ticket

abbrev pub register_line : Register → ℕ
register_line register = register.line

abbrev pub queued_line : QueuedLine → ℕ
queued_line queued = queued.line

-- the reply to what is asked of a line that has this fault, or of a good one with these bytes
abbrev pub reply_to : Option Fault → List ℕ → Ask → Reply
reply_to fault bytes Read = read_due fault bytes
reply_to fault bytes (Write mask new) = write_due fault

-- the bytes of the line after it
abbrev pub bytes_asked : Option Fault → List ℕ → Ask → List ℕ
bytes_asked fault bytes Read = bytes
bytes_asked fault bytes (Write mask new) = written_on fault bytes (laid bytes mask new)

-- and whether the memory below holds them
abbrev pub condition_asked : Condition → Ask → Condition
condition_asked condition Read = condition
condition_asked condition (Write mask new) = Dirty

-- what is due to targets, oldest first, of a line that has this fault, or of a good one with these bytes before them
abbrev pub dues : Option Fault → List ℕ → List Target → List Ready
dues fault bytes [] = []
dues fault bytes (x ∷ xs) = record { ticket = x.ticket; reply = reply_to fault bytes x.ask } ∷ dues fault (bytes_asked fault bytes x.ask) xs

-- the bytes of the line after them
abbrev pub bytes_after : Option Fault → List ℕ → List Target → List ℕ
bytes_after fault bytes [] = bytes
bytes_after fault bytes (x ∷ xs) = bytes_after fault (bytes_asked fault bytes x.ask) xs

-- and whether the memory below holds them
abbrev pub condition_after : Condition → List Target → Condition
condition_after condition [] = condition
condition_after condition (x ∷ xs) = condition_after (condition_asked condition x.ask) xs

-- whether a register waits
abbrev pub is_waiting : Progress → Bool
is_waiting Waiting = true
is_waiting (Sent ticket) = false

-- the ticket under which it was sent
abbrev pub sent_in : Progress → Option ℕ
sent_in Waiting = None
sent_in (Sent ticket) = Some ticket

-- whether it was sent under a ticket
abbrev pub is_sent_under : ℕ → Progress → Bool
is_sent_under ticket Waiting = false
is_sent_under ticket (Sent sent) = sent == ticket
