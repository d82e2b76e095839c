-- the lines of a listing, byte by byte
use Rattle.std.specs.Prelude.{◌≡◌, ℕ, ◌+◌, ◌<◌, ◌≤◌, List, [], ◌∷◌, ◌++◌, length, codes, decimal, Some, None, Option}
use Rattle.std.specs.List.{flat_map}
use Rattle.std.specs.Option.{option_map}
use Rattle.player.specs.Limits.{line_room}
use Rattle.player.specs.declared.listing.Line.{Line}
use Rattle.player.specs.declared.listing.Line.TheVariants.{Answer, Refused, Note, End}
use Rattle.port.specs.declared.answer.Redeemed.{Redeemed}
use Rattle.port.specs.declared.answer.Redeemed.TheVariants.{Value, Done, Fault}
use Rattle.trace.specs.Filled.{onto}
use Rattle.trace.specs.declared.records.Record.{Record}
use Rattle.trace.specs.declared.records.Record.TheVariants.{Note as NoteRecord}

-- a number behind a space
abbrev pub field : ℕ → List ℕ
field n = codes " " ++ decimal n

-- a letter and numbers
abbrev pub number_line : List ℕ → List ℕ → List ℕ
number_line letter numbers = letter ++ (flat_map field numbers ++ codes "\n")

-- a number was redeemed: L with the value of a load, S for a store that is done, F with the level, the line there and the cause of a fault
abbrev pub answer_line : ℕ → Redeemed → List ℕ
answer_line number (Value value) = number_line (codes "L") (number ∷ value ∷ [])
answer_line number Done = number_line (codes "S") (number ∷ [])
answer_line number (Fault fault) = number_line (codes "F") (number ∷ fault.level ∷ fault.line ∷ fault.cause ∷ [])

-- a record was refused: its index, and the number of the refusal
abbrev pub refused_line : ℕ → ℕ → List ℕ
refused_line index code = number_line (codes "X") (index ∷ code ∷ [])

-- a note, its text unaltered
abbrev pub note_line : List ℕ → List ℕ
note_line text = codes "N " ++ (text ++ codes "\n")

-- the end: how many requests were accepted, and how many steps were made
abbrev pub end_line : ℕ → ℕ → List ℕ
end_line accepted steps = number_line (codes "E") (accepted ∷ steps ∷ [])

-- the bytes of a line
abbrev pub shown : Line → List ℕ
shown (Answer number redeemed) = answer_line number redeemed
shown (Refused index code) = refused_line index code
shown (Note text) = note_line text.now
shown (End accepted steps) = end_line accepted steps

-- the bytes of a line, if there is one
abbrev pub shown_line : Option Line → Option (List ℕ)
shown_line line = option_map shown line

-- a line has room: that is in doubt for a note alone
abbrev pub Short : Line → Type 0
Short (Note text) = length text.now + 3 ≤ line_room
Short _ = Unit {0}

-- the same of a record, whose note becomes a line
abbrev pub ShortNote : Record → Type 0
ShortNote (NoteRecord text offset) = length text.now + 3 ≤ line_room
ShortNote _ = Unit {0}

-- the bytes of a line, or none
abbrev pub line_bytes : Option (List ℕ) → List ℕ
line_bytes None = []
line_bytes (Some line) = line

-- a line, or none, was put at the front of a buffer, and so many bytes were written
abbrev pub Writes : Option (List ℕ) → List ℕ → ℕ → List ℕ → Type 0
Writes line before count after = (count ≡ length (line_bytes line)) × (after ≡ onto (line_bytes line) before)

-- a line was put at the front of a buffer that has room for all of it; else nothing was written, and the buffer is as it was
abbrev pub WritesWhole : List ℕ → List ℕ → Option ℕ → List ℕ → Type 0
WritesWhole line before (Some count) after = (length line ≤ length before) × Writes (Some line) before count after
WritesWhole line before None after = (length before < length line) × (after ≡ before)
