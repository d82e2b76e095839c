use Rattle.std.specs.Prelude.{◌≡◌, ℕ, ◌^◌, ◌<◌, List, [], length, slice_index_or}
use Rattle.std.specs.Borrow.{Bor}
use Rattle.std.specs.Str.Parse.{IsNumeral, digits_value, without_leading_plus}

-- the words of a line
abbrev pub Words : Type 0
Words = List (Bor (List ℕ))

-- the text of word i, which is empty past the end
abbrev pub word : Words → ℕ → List ℕ
word words i = (slice_index_or words i (record { ref_ptr = (0, 0); now = [] })).now

-- this many words, and the first is the name
abbrev pub HasForm : Words → List ℕ → ℕ → Type 0
HasForm words name count = (length words ≡ count) × (word words 0 ≡ name)

-- the number that the digits of a text write in a radix; a plus may stand first
abbrev pub number_in : ℕ → List ℕ → ℕ
number_in radix text = digits_value radix (without_leading_plus text)

-- such a number, which fits so many bits
abbrev pub IsNumberIn : ℕ → ℕ → List ℕ → Type 0
IsNumberIn radix bits text = IsNumeral radix (without_leading_plus text) × (number_in radix text < 2 ^ bits)
