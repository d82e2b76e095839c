use Rattle.std.specs.Prelude.{ℕ, List, [], take, replicate}
use Rattle.memory.specs.Limits.{longest_script, most_bad_lines}
use Rattle.memory.specs.declared.bad_line.BadLine.{BadLine}
use Rattle.trace.specs.declared.records.Bottom.{Bottom}
use Rattle.trace.specs.declared.records.Bottom.TheVariants.{Ordered, Scripted}
use Rattle.trace.specs.declared.records.Setup.{Setup}
use Rattle.trace.specs.declared.records.SetupBuffer.{SetupBuffer}
use Rattle.trace.specs.declared.records.Record.{Record}
use Rattle.trace.specs.declared.records.Record.TheVariants.{Setup as SetupRecord, Load, Store, Pass, Note}

-- a record with all that it says: a setup with its script and its bad lines, a note with its text
pub data Item : Type 0 where
  setup : Setup → List ℕ → List BadLine → Item
  load : ℕ → ℕ → Item
  store : ℕ → ℕ → ℕ → Item
  pass : ℕ → Item
  note : List ℕ → Item

-- the script of a setup whose buffer holds these bytes
abbrev pub script_of : Bottom → List ℕ → List ℕ
script_of (Ordered latency) bytes = []
script_of (Scripted n) bytes = take n bytes

-- what a record says, with a setup's script and bad lines in that buffer
abbrev pub item_of : Record → SetupBuffer → Item
item_of (SetupRecord s) b = setup s (script_of s.bottom b.script) (take s.bad_line_count b.bad_lines)
item_of (Load size address) b = load size address
item_of (Store size address value) b = store size address value
item_of (Pass steps) b = pass steps
item_of (Note text offset) b = note text.now

-- a buffer of zeros
abbrev pub empty_buffer : SetupBuffer
empty_buffer = record { script = replicate longest_script 0; bad_lines = replicate most_bad_lines (record { line = 0; cause = 0 }) }
