use Rattle.cases.specs.Row.{Row}
use Rattle.replacement.specs.Fifo.{fifo_used, fifo_filled}
use Rattle.replacement.specs.Lru.{lru_used, lru_filled}
use Rattle.replacement.specs.Orders.{first_order, picked}
use Rattle.replacement.specs.Shapes.{geometry_answer, refusal_code}
use Rattle.replacement.specs.declared.refusal.Refusal.{Refusal}
use Rattle.std.specs.Prelude.{ℕ, List, [], ◌∷◌, Some, None, Ok, Err, Option, Result}

-- 0 and the sets and ways of a geometry, or the number of the refusal
abbrev geometry_numbers : Result (ℕ × ℕ) Refusal → List ℕ
geometry_numbers (Ok g) = 0 ∷ g.0 ∷ g.1 ∷ []
geometry_numbers (Err r) = refusal_code r ∷ []

-- the way that is picked, or nothing
abbrev way_numbers : Option ℕ → List ℕ
way_numbers None = []
way_numbers (Some way) = way ∷ []

-- in each set the order 1, 0, 3, 2
abbrev some_order : ℕ → List ℕ
some_order set = 1 ∷ 0 ∷ 3 ∷ 2 ∷ []

-- worked examples of geometries and replacement rules
abbrev pub rule_rows : List Row
rule_rows =
    -- a geometry may have 8 sets
    record { computed = geometry_numbers (geometry_answer 8 2); wanted = 0 ∷ 8 ∷ 2 ∷ [] }
    -- no geometry has 3 sets
    ∷ record { computed = geometry_numbers (geometry_answer 3 2); wanted = 10 ∷ [] }
    -- LRU with 4 ways: 0 is used, and then 2
    ∷ record { computed = lru_used 2 (lru_used 0 (first_order 4)); wanted = 1 ∷ 3 ∷ 0 ∷ 2 ∷ [] }
    -- and then 3 is filled
    ∷ record { computed = lru_filled 3 (lru_used 2 (lru_used 0 (first_order 4))); wanted = 1 ∷ 0 ∷ 2 ∷ 3 ∷ [] }
    -- FIFO with 4 ways: that 0 and 2 are used moves none
    ∷ record { computed = fifo_used 2 (fifo_used 0 (first_order 4)); wanted = 0 ∷ 1 ∷ 2 ∷ 3 ∷ [] }
    -- 0 is filled, and then 2
    ∷ record { computed = fifo_filled 2 (fifo_filled 0 (first_order 4)); wanted = 1 ∷ 3 ∷ 0 ∷ 2 ∷ [] }
    -- of the order 1, 0, 3, 2 the mask 5 offers 0 and 2
    ∷ record { computed = way_numbers (picked 1 some_order 0 5); wanted = 0 ∷ [] }
    -- the mask 0 offers none
    ∷ record { computed = way_numbers (picked 1 some_order 0 0); wanted = [] }
    -- of 1 set there is no set 1
    ∷ record { computed = way_numbers (picked 1 some_order 1 5); wanted = [] }
    ∷ []
