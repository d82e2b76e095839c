-- the moves of a level over any memory and any rule
use Rattle.std.specs.Prelude.{◌≡◌, ℕ, ◌<◌, ◌≤◌, ◌%◌, List, replicate, Some, None, Option, Ok, Err, Result}
use Rattle.line.specs.Size.{line_size}
use Rattle.memory.specs.Replies.{status_of, delivered}
use Rattle.memory.specs.declared.memory.Memory.{Ghosts}
use Rattle.memory.specs.declared.refusal.Refusal.{Refusal}
use Rattle.memory.specs.declared.refusal.Refusal.TheVariants.{NoLine, Busy}
use Rattle.memory.specs.declared.replies.Answer.{Answer}
use Rattle.memory.specs.declared.replies.Fault.{Fault}
use Rattle.replacement.specs.Orders.{told, AbsentKept}
use Rattle.replacement.specs.declared.rule.Replacement as rule
use Rattle.level_model.specs.Steps.{Taken, arrival, received, fetch, oldest_queued, reserved, dequeued}
use Rattle.level_model.specs.Tables.{row_of, Asked}
use Rattle.level_model.specs.Ways.{holding}
use Rattle.level_model.specs.declared.registers.Ask.{Ask}
use Rattle.level_model.specs.declared.registers.QueuedLine.{QueuedLine}
use Rattle.level_model.specs.declared.registers.Ready.{Ready}
use Rattle.level_model.specs.declared.tables.Arrival.{Arrival}
use Rattle.level_model.specs.declared.tables.Fetch.{Fetch}
use Rattle.level_model.specs.declared.tables.Tables.{Tables}

-- a mask that has all bits of a line
abbrev pub whole_line : ℕ
whole_line = 65535

-- a rule was told of a way of a set, which gets this new order; if there is no such way, it stays as it was
abbrev pub RuleTold : {Q : Type 0} → rule.Ghosts Q → ℕ → ℕ → List ℕ → Q → Q → Type 0
RuleTold rk set way new p q =
    (rk.geometry q ≡ rk.geometry p)
    × ((k : ℕ) → rk.order q k ≡ told (rk.geometry p) (rk.order p) set way new k)
    × AbsentKept (rk.geometry p) set way p q
    × (rk.kind q ≡ rk.kind p)

-- it is told of a hit
abbrev pub RuleUsed : {Q : Type 0} → rule.Ghosts Q → ℕ → Option ℕ → Q → Q → Type 0
RuleUsed rk set None p q = q ≡ p
RuleUsed rk set (Some way) p q = RuleTold rk set way (rk.uses p set way) p q

-- it is told of a line that arrived, and not of a fault
abbrev pub RuleFilledBy : {Q : Type 0} → rule.Ghosts Q → Arrival → Option Fault → Q → Q → Type 0
RuleFilledBy rk a (Some fault) p q = q ≡ p
RuleFilledBy rk a None p q = RuleTold rk a.set a.way (rk.fills p a.set a.way) p q

abbrev pub RuleFilled : {Q : Type 0} → rule.Ghosts Q → Option Arrival → Q → Q → Type 0
RuleFilled rk None p q = q ≡ p
RuleFilled rk (Some a) p q = RuleFilledBy rk a a.fault p q

-- the answer of a step is the one that was ready longest
abbrev pub Shows : Option Ready → List ℕ → Option Answer → List ℕ → Type 0
Shows None before r after = (r ≡ None) × (after ≡ before)
Shows (Some x) before r after = (r ≡ Some (record { ticket = x.ticket; status = status_of x.reply })) × (after ≡ delivered x.reply before)

-- the tables after what the memory below made of a request
abbrev pub tables_fetched : Fetch → Result ℕ Refusal → Tables → Tables
tables_fetched a (Ok ticket) t = reserved a ticket t
tables_fetched a (Err refusal) t = t

abbrev pub tables_written : QueuedLine → Result ℕ Refusal → Tables → Tables
tables_written q (Ok ticket) t = dequeued q.line t
tables_written q (Err refusal) t = t

module _ {S : Type 0} (k : Ghosts S) where
  -- the oldest queued line is written below
  abbrev pub WritesBack : Option QueuedLine → S → Tables → S → Tables → Type 0
  WritesBack None d t c u = (c ≡ d) × (u ≡ t)
  WritesBack (Some q) d t c u = (r : Result ℕ Refusal) × k.writes d q.line whole_line q.bytes r c × (u ≡ tables_written q r t)

  -- the line of the oldest waiting register is read below, if it may go, else a queued line is written
  abbrev pub SendsBy : Option Fetch → S → Tables → S → Tables → Type 0
  SendsBy None d t c u = WritesBack (oldest_queued t) d t c u
  SendsBy (Some a) d t c u = (r : Result ℕ Refusal) × k.reads d a.line r c × (u ≡ tables_fetched a r t)

-- what the answer of the memory below is, under a rule's geometry
abbrev pub arrived : {Q : Type 0} → rule.Ghosts Q → Q → Tables → Option Answer → Option Arrival
arrived rk p t got = arrival (rk.geometry p) t got

-- at most one request is made below
abbrev pub Sends : {S Q : Type 0} → Ghosts S → rule.Ghosts Q → Q → S → Tables → S → Tables → Type 0
Sends k rk q d t c u = SendsBy k (fetch (rk.geometry q) (rk.order q) t) d t c u

module _ {Q : Type 0} (rk : rule.Ghosts Q) where
  -- a request to a level with so many lines: 11 for a line that there is not, and else what the tables make of it; the rule is told of a hit
  abbrev pub Asks : ℕ → Tables → Q → ℕ → Ask → Result ℕ Refusal → Tables → Q → Type 0
  Asks lines t p line ask (Ok ticket) u q =
      (line < lines)
      × Asked t (line % (rk.geometry p).sets) line ask (Some ticket) u
      × RuleUsed rk (line % (rk.geometry p).sets) (holding line (row_of t (line % (rk.geometry p).sets))) p q
  Asks lines t p line ask (Err NoLine) u q = (lines ≤ line) × (u ≡ t) × (q ≡ p)
  Asks lines t p line ask (Err Busy) u q = (line < lines) × Asked t (line % (rk.geometry p).sets) line ask None u × (q ≡ p)

  -- a step: the answer that has been ready longest leaves, the memory below makes a step and what it answers is received, and
  -- at most one request is sent
  abbrev pub Steps : {S : Type 0} → Ghosts S → S → Tables → Q → List ℕ → Option Answer → S → Tables → Q → List ℕ → Type 0
  Steps {S = S} k b t p before r c u q after =
      (ready : Option Ready) × (v : Tables) × (d : S) × (got : Option Answer) × (bytes : List ℕ)
      × Taken t ready v
      × k.steps b (replicate line_size 0) got d bytes
      × RuleFilled rk (arrived rk p v got) p q
      × Sends k rk q d (received (arrived rk p v got) bytes v) c u
      × Shows ready before r after
