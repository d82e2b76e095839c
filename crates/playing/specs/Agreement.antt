-- that a trace and its listing agree: whoever has the trace knows from it each line that stands in the listing, but for the order of the
-- answers, where they stand among the other lines, and the count of steps
use Rattle.std.specs.Prelude.{◌≡◌, ℕ, ◌+◌, ◌≤◌, Bool, false, not, ◌==◌, ◌||◌, List, [], ◌∷◌, ◌++◌, length, filter, Some, None, Option, IsPermutation}
use Rattle.memory.specs.declared.bad_line.BadLine.{BadLine}
use Rattle.player.specs.Limits.{limited}
use Rattle.player.specs.Lines.{refused_line, end_line}
use Rattle.playing.specs.Requests.{at_start, answers_of, accepted_of, shown_of, steps_of}
use Rattle.trace.specs.Items.{Item, setup}
use Rattle.trace.specs.ReadUpTo.{ReadUpTo}
use Rattle.trace.specs.Reading.{reading, refused}
use Rattle.trace.specs.Refusal.{refusal_code}
use Rattle.trace.specs.Trace.{Trace}
use Rattle.trace.specs.declared.refusal.Refusal.{Refusal}

-- these are the records of a trace, up to its end or to one that the reader refuses
abbrev pub RecordsOf : List ℕ → List Item → Option Refusal → Type 0
RecordsOf trace items None = Trace trace items
RecordsOf trace items (Some why) = (offset : ℕ) × ReadUpTo trace offset items × (reading trace offset ≡ refused why offset)

-- whether a line answers a request: its letter is L, S or F
abbrev pub answers_request : List ℕ → Bool
answers_request [] = false
answers_request (letter ∷ rest) = letter == 76 || (letter == 83 || letter == 70)

-- the line of the record that ended the trace, if one was refused, by how many stood before it
abbrev pub cut_lines : ℕ → Option Refusal → List (List ℕ)
cut_lines index None = []
cut_lines index (Some why) = refused_line (limited index) (refusal_code why) ∷ []

-- the listing of a setup with so many lines and these bad ones, of the records behind it, and of the refusal that ended them, if one did
pub record Lists (lines : ℕ) (bad_lines : List BadLine) (items : List Item) (cut : Option Refusal) (listing : List (List ℕ)) : Type 0 where
  -- all lines but the last
  pub body : List (List ℕ)
  -- the last tells how many requests were accepted, and how many steps were made
  pub steps : ℕ
  pub listing_is : listing ≡ body ++ (end_line (accepted_of lines bad_lines at_start items) steps ∷ [])
  -- each accepted request is answered once, by the line that flat memory gives; in which order, and where among the others, is left open
  pub answers : IsPermutation (answers_of lines bad_lines at_start items) (filter answers_request body)
  -- all other lines are the notes and the refused records, in the order of the records
  pub others : filter (λ line. not (answers_request line)) body ≡ shown_of lines bad_lines 1 at_start items ++ cut_lines (length items + 1) cut
  -- no pass was cut short
  pub enough : limited (steps_of items) ≤ steps

-- the listing of these records: of a setup and those behind it, or of a setup that was refused
abbrev pub ListsRecords : List Item → Option Refusal → List (List ℕ) → Type 0
ListsRecords (setup head script bad_lines ∷ items) cut listing = Lists head.lines bad_lines items cut listing
ListsRecords [] (Some why) listing = listing ≡ refused_line 0 (refusal_code why) ∷ (end_line 0 0 ∷ [])
ListsRecords _ _ listing = ⊥

-- a trace and a listing agree
abbrev pub Agrees : List ℕ → List (List ℕ) → Type 0
Agrees trace listing = (items : List Item) × (cut : Option Refusal) × RecordsOf trace items cut × ListsRecords items cut listing
