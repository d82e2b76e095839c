use Rattle.std.specs.Prelude.{◌≡◌, ℕ, ◌-◌, ◌≤◌, Bool, true, false, if◌then◌else◌, not, ◌&&◌, List, ◌++◌, length, take, drop, Some, None, Ok, Err, Option, Result, ◌==◌, nat_le}
use Rattle.trace.specs.declared.records.Record.{Record}
use Rattle.trace.specs.declared.refusal.Refusal.{Refusal}
use Rattle.trace.specs.declared.records.SetupBuffer.{SetupBuffer}
use Rattle.trace.specs.Decode.{decode}
use Rattle.trace.specs.Encode.{encode, in_limits}
use Rattle.trace.specs.Items.{Item, item_of, empty_buffer}
use Rattle.trace.specs.Parsed.{Parsed, Took, Refuses}
use Rattle.trace.specs.declared.refusal.Refused.{Refused}
use Rattle.trace.specs.Notes.{Noted}
use Rattle.trace.specs.Filled.{filled}

-- what reading on from an offset comes to: the end, a record and the offset after it, or a refusal and the offset where the record begins
pub data Outcome : Type 0 where
  ended : Outcome
  gave : Item → ℕ → Outcome
  refused : Refusal → ℕ → Outcome

-- a record that was taken off the bytes from an offset on
abbrev pub from_offset : List ℕ → ℕ → Parsed Item → Outcome
from_offset trace at (Took item rest) = gave item (length trace - length rest)
from_offset trace at (Refuses r) = refused r at

-- a trace ends behind its last byte, but not before its first record
abbrev pub is_over : List ℕ → ℕ → Bool
is_over trace at = not (at == 0) && at == length trace

-- reading on from an offset
abbrev pub reading : List ℕ → ℕ → Outcome
reading trace at = if is_over trace at then ended else from_offset trace at (decode (at == 0) (drop at trace))

-- reading on from an offset behind the first record: a trace that ends there or before is at its end
abbrev pub reading_later : List ℕ → ℕ → Outcome
reading_later trace at = if nat_le (length trace) at then ended else from_offset trace at (decode false (drop at trace))

-- what the answer to such a call says; a buffer is given to no such record
abbrev pub later_outcome : ℕ → Result (Option (Record × ℕ)) Refusal → Outcome
later_outcome at (Ok None) = ended
later_outcome at (Ok (Some r)) = gave (item_of r.0 empty_buffer) r.1
later_outcome at (Err refusal) = refused refusal at

-- what a reader's answer says, with the caller's buffer and the reader's offset after it
abbrev pub outcome : Result (Option Record) Refused → SetupBuffer → ℕ → Outcome
outcome (Ok None) b to = ended
outcome (Ok (Some r)) b to = gave (item_of r b) to
outcome (Err e) b to = refused e.refusal e.offset

-- the reader's offset after an outcome
abbrev pub offset_after : ℕ → Outcome → ℕ
offset_after at ended = at
offset_after at (gave item to) = to
offset_after at (refused r offset) = at

-- the caller's buffer after an outcome
abbrev pub filled_after : SetupBuffer → Outcome → SetupBuffer
filled_after b ended = b
filled_after b (gave item to) = filled b item
filled_after b (refused r offset) = b

-- where a note's text lies that a reader answers, with the reader's offset after it
abbrev pub NotedIn : Result (Option Record) Refused → ℕ → Type 0
NotedIn (Ok None) to = Unit {0}
NotedIn (Ok (Some r)) to = Noted r to
NotedIn (Err e) to = Unit {0}

-- the same of a record behind the first, with the offset after it
abbrev pub NotedLater : Result (Option (Record × ℕ)) Refusal → Type 0
NotedLater (Ok None) = Unit {0}
NotedLater (Ok (Some r)) = Noted r.0 r.1
NotedLater (Err e) = Unit {0}

-- what was read is written back: the bytes up to the next offset are those that the record is written as, and it is within its limits; the end is the trace's end, and a refusal tells the offset where its record begins
abbrev pub ReadBack : List ℕ → ℕ → Outcome → Type 0
ReadBack trace at ended = at ≡ length trace
ReadBack trace at (gave item to) = (to ≤ length trace) × (take to trace ≡ take at trace ++ encode item) × (in_limits item ≡ true)
ReadBack trace at (refused r offset) = offset ≡ at
