-- how what was written so far, and the port, stand to the records that were read
use Rattle.std.proofs.Common.{◌≡◌, ℕ, ◌+◌, ◌*◌, ◌<◌, ◌≤◌, not, List, [], ◌∷◌, ◌++◌, map, length, slice_index, Some, None, Option}
use Rattle.std.specs.Prelude.{filter, IsPermutation}
use Rattle.hierarchy.specs.Begins.{bad_fault}
use Rattle.line.specs.Size.{line_size}
use Rattle.memory.specs.Meaning.{Facts, Idle}
use Rattle.memory.specs.declared.bad_line.BadLine.{BadLine}
use Rattle.player.specs.Image.{first_byte}
use Rattle.player.specs.Lines.{answer_line}
use Rattle.playing.specs.Agreement.{answers_request, cut_lines}
use Rattle.playing.specs.Requests.{Before, at_start, after, answers_of, shown_of}
use Rattle.port.specs.Promise.{accepted, flat, due_to, out}
use Rattle.port.specs.declared.answer.Redeemed.{Redeemed}
use Rattle.port.specs.declared.event.Event.{Event}
use Rattle.trace.specs.Items.{Item}
use Rattle.trace.specs.declared.refusal.Refusal.{Refusal}

-- the longest pace of a hierarchy that a setup names
abbrev pub longest_pace : ℕ
longest_pace = 265

-- what is known of a hierarchy that was made for a setup with so many lines and these bad ones
pub record Opened (lines : ℕ) (bad_lines : List BadLine) (o : Facts) : Type 0 where
  pub lines_are : o.lines ≡ lines
  pub bytes_are : (line i : ℕ) → line < lines → i < line_size → slice_index (o.contents line) i ≡ first_byte (line_size * line + i)
  pub bad_are : (line : ℕ) → o.bad line ≡ bad_fault 0 bad_lines line
  pub pace_is : o.pace ≤ longest_pace
  pub idle : Idle o

-- the line of the answer that is due
abbrev pub line_due : ℕ → Option Redeemed → List ℕ
line_due u None = []
line_due u (Some redeemed) = answer_line u redeemed

abbrev pub due_line : Facts → List Event → ℕ → List ℕ
due_line o log u = line_due u (due_to o log u)

module _ (lines : ℕ) (bad_lines : List BadLine) where
  -- flat memory and the count of accepted requests behind records
  abbrev pub behind : Before → List Item → Before
  behind b [] = b
  behind b (item ∷ items) = behind (after lines bad_lines b item) items

  -- the events of the port, and the lines written so far, by the records that were carried out and the refusal that ended them, if one did
  pub record Told (o : Facts) (written : List (List ℕ)) (items : List Item) (cut : Option Refusal) (log : List Event) : Type 0 where
    pub accepted_is : accepted log ≡ (behind at_start items).accepted
    pub flat_is : (a : ℕ) → a < line_size * lines → flat o log a ≡ (behind at_start items).bytes a
    -- what was accepted is answered already, or its number is out
    pub answers : IsPermutation (answers_of lines bad_lines at_start items) (filter answers_request written ++ map (due_line o log) (out log))
    pub others : filter (λ line. not (answers_request line)) written ≡ shown_of lines bad_lines 1 at_start items ++ cut_lines (length items + 1) cut
