use Rattle.cases.specs.Row.{Row}
use Rattle.line.specs.Laid.{laid}
use Rattle.line.specs.Values.{value_mask}
use Rattle.std.specs.Prelude.{ℕ, List, [], ◌∷◌}
use Rattle.std.specs.List.{range_with_len}

-- a line of the bytes 0 to 15, and one of the bytes 100 to 115
abbrev old : List ℕ
old = range_with_len 0 16

abbrev new : List ℕ
new = range_with_len 100 16

-- worked examples of lines and masks
abbrev pub line_rows : List Row
line_rows =
    -- the mask with the bits 0, 2 and 15 lays the bytes 0, 2 and 15
    record { computed = laid old 0x8005 new; wanted = 100 ∷ 1 ∷ 102 ∷ 3 ∷ 4 ∷ 5 ∷ 6 ∷ 7 ∷ 8 ∷ 9 ∷ 10 ∷ 11 ∷ 12 ∷ 13 ∷ 14 ∷ 115 ∷ [] }
    -- the mask 0 lays none
    ∷ record { computed = laid old 0 new; wanted = 0 ∷ 1 ∷ 2 ∷ 3 ∷ 4 ∷ 5 ∷ 6 ∷ 7 ∷ 8 ∷ 9 ∷ 10 ∷ 11 ∷ 12 ∷ 13 ∷ 14 ∷ 15 ∷ [] }
    -- a value of 4 bytes at offset 4 has the bits 4 to 7
    ∷ record { computed = value_mask 4 4 ∷ []; wanted = 0x00f0 ∷ [] }
    ∷ []
