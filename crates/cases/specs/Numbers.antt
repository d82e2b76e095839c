use Rattle.cases.specs.Row.{Row}
use Rattle.std.specs.Prelude.{ℕ, List, [], ◌∷◌}
use Rattle.trace.specs.Numbers.{number}
use Rattle.trace.specs.Parsed.{Parsed, Took, Refuses}
use Rattle.trace.specs.Refusal.{refusal_code}

-- 0 and the number that was read, or the number of the refusal
abbrev read_numbers : Parsed ℕ → List ℕ
read_numbers (Took n rest) = 0 ∷ n ∷ []
read_numbers (Refuses r) = refusal_code r ∷ []

-- worked examples of the numbers of a trace
abbrev pub number_rows : List Row
number_rows =
    -- hex C8 01 is 200
    record { computed = read_numbers (number (0xc8 ∷ 0x01 ∷ [])); wanted = 0 ∷ 200 ∷ [] }
    -- hex 80 00 is not in its shortest form
    ∷ record { computed = read_numbers (number (0x80 ∷ 0x00 ∷ [])); wanted = 2 ∷ [] }
    ∷ []
