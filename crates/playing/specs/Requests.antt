-- What the records of a trace come to, by flat memory alone: which requests are accepted, what answers them, and what is refused. Nothing here
-- knows of levels, of steps, or of when an answer comes.
use Rattle.std.specs.Prelude.{ℕ, suc, ◌+◌, ◌-◌, ◌/◌, ◌&&◌, if◌then◌else◌, List, [], ◌∷◌, ◌++◌, is_none, Some, None, Option, Ok, Err, nat_le, slice_index}
use Rattle.hierarchy.specs.Begins.{bad_fault}
use Rattle.line.specs.Size.{line_size}
use Rattle.line.specs.Values.{covers, low_bytes}
use Rattle.memory.specs.declared.bad_line.BadLine.{BadLine}
use Rattle.memory.specs.declared.replies.Fault.{Fault}
use Rattle.player.specs.Image.{first_byte}
use Rattle.player.specs.Limits.{limited}
use Rattle.player.specs.Lines.{answer_line, refused_line, note_line}
use Rattle.port.specs.Answers.{load_shows, store_shows}
use Rattle.port.specs.Limits.{largest_ration}
use Rattle.port.specs.Promise.{value_from}
use Rattle.port.specs.Requests.{Verdict, unlawful_code, load_verdict, store_verdict}
use Rattle.trace.specs.Items.{Item, load, store, pass, note}

-- before a record: flat memory, a byte for each address, and how many requests were accepted
pub record Before : Type 0 where
  pub bytes : ℕ → ℕ
  pub accepted : ℕ

-- before the first record behind the setup
abbrev pub at_start : Before
at_start = record { bytes = first_byte; accepted = 0 }

-- by which number a request is refused, if it is, with so many accepted before it: it is not lawful, or the ration is used
abbrev pub refused_by : ℕ → Verdict → Option ℕ
refused_by accepted (Err why) = Some (unlawful_code why)
refused_by accepted (Ok lawful) = if nat_le largest_ration accepted then Some 22 else None

module _ (lines : ℕ) (bad_lines : List BadLine) where
  -- by which number a record is refused, if it is a request that is
  abbrev pub refusal : ℕ → Item → Option ℕ
  refusal accepted (load size address) = refused_by accepted (load_verdict lines size address)
  refusal accepted (store size address value) = refused_by accepted (store_verdict lines size address value)
  refusal accepted _ = None

  -- the fault of the line that an address lies in, if that is bad
  abbrev pub bad_fault_at : ℕ → Option Fault
  bad_fault_at address = bad_fault 0 bad_lines (address / line_size)

  -- the byte at an address after a store: on a good line its bytes, as many as its size, from its address up
  abbrev pub stored : ℕ → ℕ → ℕ → (ℕ → ℕ) → ℕ → ℕ
  stored size address value bytes a = if is_none (bad_fault_at address) && covers address size a then slice_index (low_bytes size value) (a - address) else bytes a

  -- after a request that is not refused: one more was accepted
  abbrev pub after_request : Option ℕ → (ℕ → ℕ) → Before → Before
  after_request None bytes b = record { bytes = bytes; accepted = b.accepted + 1 }
  after_request (Some code) bytes b = b

  -- after a record
  abbrev pub after : Before → Item → Before
  after b (load size address) = after_request (refusal b.accepted (load size address)) b.bytes b
  after b (store size address value) = after_request (refusal b.accepted (store size address value)) (stored size address value b.bytes) b
  after b _ = b

  -- the line of an answer, where the request is not refused
  abbrev pub answer_if : Option ℕ → List ℕ → List (List ℕ)
  answer_if None line = line ∷ []
  answer_if (Some code) line = []

  -- the line that answers a record: a load shows flat memory as it is now, a store that it is done, and both the fault of a bad line
  abbrev pub item_answers : Before → Item → List (List ℕ)
  item_answers b (load size address) =
      answer_if (refusal b.accepted (load size address)) (answer_line (b.accepted + 1) (load_shows (bad_fault_at address) (value_from b.bytes address size)))
  item_answers b (store size address value) = answer_if (refusal b.accepted (store size address value)) (answer_line (b.accepted + 1) (store_shows (bad_fault_at address)))
  item_answers b _ = []

  -- the lines that answer the requests of records, in their order
  abbrev pub answers_of : Before → List Item → List (List ℕ)
  answers_of b [] = []
  answers_of b (item ∷ items) = item_answers b item ++ answers_of (after b item) items

  -- how many requests were accepted, once these records were carried out
  abbrev pub accepted_of : Before → List Item → ℕ
  accepted_of b [] = b.accepted
  accepted_of b (item ∷ items) = accepted_of (after b item) items

  -- the line that a refused record shows, by its index
  abbrev pub refused_if : ℕ → Option ℕ → List (List ℕ)
  refused_if index None = []
  refused_if index (Some code) = refused_line (limited index) code ∷ []

  -- the line that a record shows by itself: a note its text, a refused request its index and the number of its refusal
  abbrev pub item_shown : ℕ → ℕ → Item → List (List ℕ)
  item_shown index accepted (load size address) = refused_if index (refusal accepted (load size address))
  item_shown index accepted (store size address value) = refused_if index (refusal accepted (store size address value))
  item_shown index accepted (note text) = note_line text ∷ []
  item_shown index accepted _ = []

  -- the lines that records show by themselves, in their order, where the first has that index
  abbrev pub shown_of : ℕ → Before → List Item → List (List ℕ)
  shown_of index b [] = []
  shown_of index b (item ∷ items) = item_shown index b.accepted item ++ shown_of (suc index) (after b item) items

-- the steps that records ask for
abbrev pub steps_of : List Item → ℕ
steps_of [] = 0
steps_of (pass steps ∷ items) = steps + steps_of items
steps_of (_ ∷ items) = steps_of items
