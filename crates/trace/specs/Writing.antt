use Rattle.std.specs.Prelude.{◌≡◌, ℕ, ◌+◌, Bool, true, false, if◌then◌else◌, List, [], ◌∷◌, ◌++◌, length, take, drop, Ok, Err, Result, ◌==◌, nat_le, nat_lt}
use Rattle.trace.specs.declared.refusal.Refusal.{Refusal}
use Rattle.trace.specs.declared.refusal.Refusal.TheVariants.{Limit, Misplaced, Room}
use Rattle.trace.specs.Encode.{encode, in_limits, is_setup}
use Rattle.trace.specs.Items.{Item}
use Rattle.trace.specs.Trace.{Trace}

-- whether a record may not stand after so many bytes: a setup after some, or another after none
abbrev pub misplaced : ℕ → Item → Bool
misplaced written item = if is_setup item then nat_lt 0 written else written == 0

-- what adding bytes after so many answers, in a buffer so long
abbrev pub adding : ℕ → ℕ → List ℕ → Result (Unit {0}) Refusal
adding written room bytes = if nat_le (written + length bytes) room then Ok tt else Err Room

-- what writing a record after so many bytes answers, in a buffer so long: the first refusal that applies
abbrev pub writing : ℕ → ℕ → Item → Result (Unit {0}) Refusal
writing written room item =
    if misplaced written item then Err Misplaced
    else if in_limits item then adding written room (encode item)
    else Err Limit

-- how many bytes stand written once these were added or refused
abbrev pub written_after : Result (Unit {0}) Refusal → ℕ → List ℕ → ℕ
written_after (Ok u) written bytes = written + length bytes
written_after (Err e) written bytes = written

-- the buffer once these bytes were added or refused
abbrev pub buffer_after : Result (Unit {0}) Refusal → ℕ → List ℕ → List ℕ → List ℕ
buffer_after (Ok u) written bytes buffer = take written buffer ++ (bytes ++ drop (written + length bytes) buffer)
buffer_after (Err e) written bytes buffer = buffer

-- how a record goes on from what stood written: after nothing it is a trace by itself, after a trace it is the next record of that trace
abbrev pub Grows : ℕ → List ℕ → List ℕ → Item → Type 0
Grows written before after item = (written ≡ 0 → Trace after (item ∷ [])) × ((items : List Item) → Trace before items → Trace after (items ++ (item ∷ [])))

-- so it goes on by these bytes, whichever record within its limits has them and may stand there
abbrev pub GrowsBy : ℕ → List ℕ → List ℕ → List ℕ → Type 0
GrowsBy written before after bytes = (item : Item) → bytes ≡ encode item → misplaced written item ≡ false → in_limits item ≡ true → Grows written before after item
