use Rattle.std.specs.Prelude.{ℕ, Bool, List, ◌++◌, length, drop, Result}
use Rattle.std.specs.Borrow.{Bor}
use Rattle.trace.specs.declared.records.Bottom.{Bottom}
use Rattle.memory.specs.declared.bad_line.BadLine.{BadLine}
use Rattle.trace.specs.declared.records.Kind.{Kind}
use Rattle.trace.specs.declared.records.Record.{Record}
use Rattle.trace.specs.declared.refusal.Refusal.{Refusal}
use Rattle.trace.specs.declared.records.SetupBuffer.{SetupBuffer}
use Rattle.trace.specs.Decode.{script, bottom, bad_lines, fields, decode}
use Rattle.trace.specs.Items.{Item, setup, load, store, pass, note, item_of}
use Rattle.trace.specs.Parsed.{Parsed, Took, and_then, parsed_as}

-- elements whose first are replaced, and whose others stay
abbrev pub onto : {X : Type 0} → List X → List X → List X
onto xs old = xs ++ drop (length xs) old

-- a script that goes to the front of a buffer's
abbrev pub script_onto : ℕ → List ℕ → List ℕ → Parsed (List ℕ)
script_onto n old bs = and_then (script n bs) (λ bytes rest. Took (onto bytes old) rest)

-- a bottom memory whose script goes to the front of a buffer's
abbrev pub bottom_onto : List ℕ → List ℕ → Parsed (Bottom × List ℕ)
bottom_onto old bs = and_then (bottom bs) (λ b rest. Took (b.0, onto b.1 old) rest)

-- bad lines that go to the front of a buffer's
abbrev pub bad_lines_onto : ℕ → List BadLine → List ℕ → Parsed (List BadLine)
bad_lines_onto n old bs = and_then (bad_lines n bs) (λ bad rest. Took (onto bad old) rest)

-- a buffer after a record was read: a setup's script and bad lines stand at the front of its two parts
abbrev pub filled : SetupBuffer → Item → SetupBuffer
filled b (setup s script bad) = record { script = onto script b.script; bad_lines = onto bad b.bad_lines }
filled b (load size address) = b
filled b (store size address value) = b
filled b (pass steps) = b
filled b (note bytes) = b

-- what a function answers that reads a record: the record with all that it says, and the buffer after it
abbrev pub seen : Result ((Record × SetupBuffer) × Bor (List ℕ)) Refusal → Parsed (Item × SetupBuffer)
seen r = parsed_as (λ s. (item_of s.0 s.1, s.1)) r

-- the same of a record behind the first, which is seen alike beside any buffer
abbrev pub seen_later : SetupBuffer → Result (Record × Bor (List ℕ)) Refusal → Parsed Item
seen_later b r = parsed_as (λ s. item_of s b) r

-- the fields of a record of a kind, and the buffer after them
abbrev pub fields_onto : SetupBuffer → Kind → List ℕ → Parsed (Item × SetupBuffer)
fields_onto b kind bs = and_then (fields kind bs) (λ item rest. Took (item, filled b item) rest)

-- the record at the front of some bytes, and the buffer after it
abbrev pub record_onto : SetupBuffer → Bool → List ℕ → Parsed (Item × SetupBuffer)
record_onto b first bs = and_then (decode first bs) (λ item rest. Took (item, filled b item) rest)
