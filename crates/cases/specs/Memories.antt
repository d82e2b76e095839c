use Rattle.backing.specs.Clock.{counted_latency}
use Rattle.backing.specs.Image.{bad_line_at, counted_bad_lines, lines_in}
use Rattle.backing.specs.Script.{counted_script}
use Rattle.bottom.specs.Ordered.{ordered_limit}
use Rattle.bottom.specs.Scripted.{scripted_limit}
use Rattle.cases.specs.Row.{Row}
use Rattle.memory.specs.declared.bad_line.BadLine.{BadLine}
use Rattle.std.specs.Prelude.{ℕ, List, [], ◌∷◌, ◌++◌, replicate, Some, None, Option}

-- the cause of a bad line, or nothing of a good one
abbrev cause_numbers : Option BadLine → List ℕ
cause_numbers None = []
cause_numbers (Some bad) = bad.cause ∷ []

-- line 7 with one cause and then with another, pairs for line 5 up to the 31st, the 32nd for line 8 and the 33rd for line 9
abbrev pairs : List BadLine
pairs =
    record { line = 7; cause = 40 }
    ∷ record { line = 7; cause = 41 }
    ∷ (replicate 29 (record { line = 5; cause = 42 }) ++ record { line = 8; cause = 43 } ∷ record { line = 9; cause = 44 } ∷ [])

-- worked examples of the two bottom memories
abbrev pub memory_rows : List Row
memory_rows =
    -- of 64 zeros and then a 1 a single 1 counts
    record { computed = counted_script (replicate 64 0 ++ 1 ∷ []); wanted = 1 ∷ [] }
    -- 65,552 bytes have 4,096 lines
    ∷ record { computed = lines_in 65552 ∷ []; wanted = 4096 ∷ [] }
    -- of two pairs for a line the first counts
    ∷ record { computed = cause_numbers (bad_line_at 7 (counted_bad_lines pairs)); wanted = 40 ∷ [] }
    -- the 32nd pair counts
    ∷ record { computed = cause_numbers (bad_line_at 8 (counted_bad_lines pairs)); wanted = 43 ∷ [] }
    -- the 33rd does not
    ∷ record { computed = cause_numbers (bad_line_at 9 (counted_bad_lines pairs)); wanted = [] }
    -- the latencies 0 and 65 become 1 and 64
    ∷ record { computed = counted_latency 0 ∷ counted_latency 65 ∷ []; wanted = 1 ∷ 64 ∷ [] }
    -- the memory that answers in order is busy at 4 open requests, the other at 16
    ∷ record { computed = ordered_limit ∷ scripted_limit ∷ []; wanted = 4 ∷ 16 ∷ [] }
    ∷ []
