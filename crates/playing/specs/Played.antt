use Rattle.std.specs.Prelude.{◌≡◌, ℕ, ◌≤◌, true, List, length, take, Option, Ok, Err, Result}
use Rattle.std.specs.Borrow.{MutBor}
use Rattle.std.specs.List.{concat}
use Rattle.std.specs.Option.{IfSome}
use Rattle.std.specs.Io.KnownBytes.{Appends}
use Rattle.player.specs.Player.{player_ended, Makes}
use Rattle.player.specs.declared.player.FirstRecord.{FirstRecord}
use Rattle.player.specs.declared.player.Player.{Player}
use Rattle.playing.specs.Agreement.{Agrees}
use Rattle.playing.specs.Calls.{Calls, LastCounts, most_calls}
use Rattle.trace.specs.Items.{item_of}
use Rattle.trace.specs.Reading.{reading, gave, refused}
use Rattle.trace.specs.declared.records.Record.TheVariants as the_record
use Rattle.trace.specs.declared.records.Setup.{Setup}
use Rattle.trace.specs.declared.records.SetupBuffer.{SetupBuffer}
use Rattle.trace.specs.declared.refusal.Refusal.{Refusal}

-- how many bytes of its input a play takes as the trace
abbrev pub trace_room : ℕ
trace_room = 32768

-- what the reader says of the first record of a trace, with the script and the bad lines of a setup in a buffer
abbrev pub FirstSetup : List ℕ → SetupBuffer → Result (Setup × ℕ) Refusal → Type 0
FirstSetup trace b (Ok first) = reading trace 0 ≡ gave (item_of (the_record.Setup first.0) b) first.1
FirstSetup trace b (Err why) = reading trace 0 ≡ refused why 0

-- the same of a first record with its buffer
abbrev pub FirstOf : List ℕ → Result FirstRecord Refusal → Type 0
FirstOf trace (Ok first) = reading trace 0 ≡ gave (item_of (the_record.Setup first.setup) first.buffer.now) first.offset
FirstOf trace (Err why) = reading trace 0 ≡ refused why 0

-- a player was made for a trace, from what the reader says of its first record and some image
pub record MadeFor (trace : List ℕ) (p : Player) : Type 0 where
  pub first : Result FirstRecord Refusal
  pub first_is : FirstOf trace first
  pub image : MutBor (List ℕ)
  pub makes : Makes first image (Ok p)

-- the lines of a whole play of a trace
pub record PlayedLines (trace : List ℕ) (lines : List (List ℕ)) : Type 0 where
  -- calls of a new player, one after another, up to the last line
  pub start : Player
  pub made : MadeFor trace start
  pub calls : ℕ
  pub last : Player
  pub ran : Calls trace start calls lines last
  pub ended : player_ended last ≡ true
  -- not too many
  pub few : calls ≤ most_calls (length trace)
  -- the last tells what the port did in all
  pub counts : LastCounts start.stage last.stage lines
  -- and the lines are those that the trace alone decides
  pub agree : Agrees trace lines

-- a trace was played, and a writer was given its whole listing and nothing else
pub record Listed (trace : List ℕ) (before after : Option (List ℕ)) : Type 0 where
  pub lines : List (List ℕ)
  pub played : PlayedLines trace lines
  pub written : Appends before after (concat lines)

-- the trace is what a reader gives, as many bytes as a trace has at most; where that is not known, it is some trace of no more bytes
pub record Played (given before after : Option (List ℕ)) : Type 0 where
  pub trace : List ℕ
  pub trace_is : IfSome given (λ bytes. trace ≡ take trace_room bytes)
  pub short : length trace ≤ trace_room
  pub listed : Listed trace before after
