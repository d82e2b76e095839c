use Rattle.std.specs.Prelude.{◌≡◌, ◌-◌, ◌⊎◌, [], ◌∷◌, ◌++◌, true, false, codes, length, slice_get, slice_set, Result, Ok, IsErr, OnOk, OnErr, MatchOption, MatchResult, ⊤}
use Rattle.std.specs.Prelude as prelude
use Rattle.std.specs.Iterator.{DrainsIf}
use Rattle.std.specs.Str.Iter.{split_whitespace_rest, split_whitespace_steps}
use Rattle.std.specs.declared.str.SplitWhitespace.{SplitWhitespace}
use Rattle.anyhow.specs.declared.error.Error.{Error}
use Rattle.calls.specs.declared.call.Call.{Call}
use Rattle.calls.specs.declared.lists.List.{List}
use Rattle.calls.specs.Call.{ReadsCall}
use Rattle.calls.specs.Setup.{Stays, TakesLine, IsNew}
use Rattle.calls.specs.Words.{Words, word, HasForm, number_in, IsNumberIn}

-- the lists of a text
abbrev pub Lists : Type 0
Lists = prelude.List List

-- a list of no calls yet, on memories of so many lines
pub record IsNewList (lines : prelude.ℕ) (list : List) : Type 0 where
  pub setup : IsNew lines list.setup
  pub calls : list.calls.items ≡ []
  pub is_set_up : list.is_set_up ≡ false

-- behind its setup a list takes a call
abbrev pub TakesCall : Words → List → List → Type 0
TakesCall words old new =
    (call : Call) × ReadsCall words (Ok call) × (new.calls.items ≡ old.calls.items ++ call ∷ []) × (new.setup ≡ old.setup) × (new.is_set_up ≡ true)

-- what a line of words makes of a list: a call, once it is set up; before that, the end of its setup or a part of it
pub record TakesWords (words : Words) (old : List) (r : Result Unit Error) (new : List) : Type 0 where
  pub call : old.is_set_up ≡ true → OnOk r (TakesCall words old new)
  pub ends : old.is_set_up ≡ false → HasForm words (codes "calls") 1
      → (r ≡ Ok tt) × (new.setup ≡ old.setup) × (new.calls.items ≡ old.calls.items) × (new.is_set_up ≡ true)
  pub setup : old.is_set_up ≡ false → ¬ HasForm words (codes "calls") 1
      → TakesLine words old.setup r new.setup × (new.calls.items ≡ old.calls.items) × (new.is_set_up ≡ false)
  pub err : OnErr r (Stays old.setup new.setup × (new.calls.items ≡ old.calls.items) × (new.is_set_up ≡ old.is_set_up))

-- what `split_whitespace` gives for a line
abbrev pub IsWordsOf : prelude.List prelude.ℕ → Words → Type 0
IsWordsOf line words = (it : SplitWhitespace) × (split_whitespace_rest it ≡ line) × DrainsIf split_whitespace_steps ⊤ it words

-- `lines N` begins another list
abbrev pub BeginsList : Words → Lists → Lists → Type 0
BeginsList words old new =
    IsNumberIn 10 32 (word words 1) × ((list : List) × IsNewList (number_in 10 (word words 1)) list × (new ≡ old ++ list ∷ []))

-- a line goes to the last list, and the others stay
abbrev pub GoesToLast : Words → List → Lists → Result Unit Error → Lists → Type 0
GoesToLast words last old r new =
    (after : List) × (new ≡ slice_set old (length old - 1) after) × TakesWords words last r after

-- what the words of a line make of the lists
pub record AddsWords (words : Words) (old : Lists) (r : Result Unit Error) (new : Lists) : Type 0 where
  pub begins : HasForm words (codes "lines") 2 → MatchResult r (λ _. BeginsList words old new) (λ _. new ≡ old)
  pub goes : ¬ HasForm words (codes "lines") 2 → MatchOption (slice_get old (length old - 1))
      (IsErr r × (new ≡ old))
      (λ last. GoesToLast words last old r new)

-- the same of the text of a line, unless memory runs out before its words are known
abbrev pub AddsLine : prelude.List prelude.ℕ → Lists → Result Unit Error → Lists → Type 0
AddsLine line old r new = (IsErr r × (new ≡ old)) ⊎ ((words : Words) × IsWordsOf line words × AddsWords words old r new)

-- what lines that are taken, one after another, make of the lists
abbrev pub AddsLines : prelude.List (prelude.List prelude.ℕ) → Lists → Lists → Type 0
AddsLines [] old new = new ≡ old
AddsLines (line ∷ more) old new = (mid : Lists) × AddsLine line old (Ok tt) mid × AddsLines more mid new
