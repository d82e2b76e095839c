use Rattle.std.specs.Prelude.{ℕ, List}
use Rattle.replacement.specs.Orders.{moved_to_end}
use Rattle.replacement.specs.Rows.{order_of}
use Rattle.replacement.specs.declared.geometry.Geometry.{Geometry}
use Rattle.replacement.specs.declared.fifo.Fifo.{Fifo}

-- how many sets and ways a rule of this kind is for
abbrev pub fifo_geometry : Fifo → Geometry
fifo_geometry rule = rule.orders.geometry

-- the order of each of its sets
abbrev pub fifo_order : Fifo → ℕ → List ℕ
fifo_order rule set = order_of rule.orders set

-- a set's order once a way was used: as it was
abbrev pub fifo_used : ℕ → List ℕ → List ℕ
fifo_used way order = order

-- a set's order once a way was filled: it goes to the end
abbrev pub fifo_filled : ℕ → List ℕ → List ℕ
fifo_filled way order = moved_to_end way order
