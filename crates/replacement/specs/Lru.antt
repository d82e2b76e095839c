use Rattle.std.specs.Prelude.{ℕ, List}
use Rattle.replacement.specs.Orders.{moved_to_end}
use Rattle.replacement.specs.Rows.{order_of}
use Rattle.replacement.specs.declared.geometry.Geometry.{Geometry}
use Rattle.replacement.specs.declared.lru.Lru.{Lru}

-- how many sets and ways a rule of this kind is for
abbrev pub lru_geometry : Lru → Geometry
lru_geometry rule = rule.orders.geometry

-- the order of each of its sets
abbrev pub lru_order : Lru → ℕ → List ℕ
lru_order rule set = order_of rule.orders set

-- a set's order once a way was used: it goes to the end
abbrev pub lru_used : ℕ → List ℕ → List ℕ
lru_used way order = moved_to_end way order

-- a set's order once a way was filled: it goes to the end
abbrev pub lru_filled : ℕ → List ℕ → List ℕ
lru_filled way order = moved_to_end way order
