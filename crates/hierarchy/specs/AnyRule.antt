-- a rule that is chosen when the program runs is the one that was chosen
use Rattle.std.specs.Prelude.{ℕ, ◌<◌, List}
use Rattle.hierarchy.specs.declared.any_rule.AnyRule.{AnyRule}
use Rattle.hierarchy.specs.declared.any_rule.AnyRule.TheVariants.{Lru, Fifo}
use Rattle.replacement.specs.Fifo.{fifo_geometry, fifo_order, fifo_used, fifo_filled}
use Rattle.replacement.specs.Lru.{lru_geometry, lru_order, lru_used, lru_filled}
use Rattle.replacement.specs.Orders.{EachOnce}
use Rattle.replacement.specs.declared.geometry.Geometry.{Geometry}

-- how many sets and ways it is for
abbrev pub any_geometry : AnyRule → Geometry
any_geometry (Lru rule) = lru_geometry rule
any_geometry (Fifo rule) = fifo_geometry rule

-- the order of each set
abbrev pub any_order : AnyRule → ℕ → List ℕ
any_order (Lru rule) = lru_order rule
any_order (Fifo rule) = fifo_order rule

-- a set's order once a way was used
abbrev pub any_uses : AnyRule → ℕ → ℕ → List ℕ
any_uses (Lru rule) set way = lru_used way (lru_order rule set)
any_uses (Fifo rule) set way = fifo_used way (fifo_order rule set)

-- a set's order once a way was filled
abbrev pub any_fills : AnyRule → ℕ → ℕ → List ℕ
any_fills (Lru rule) set way = lru_filled way (lru_order rule set)
any_fills (Fifo rule) set way = fifo_filled way (fifo_order rule set)

-- the kind that was chosen
abbrev pub any_kind : AnyRule → ℕ
any_kind (Lru rule) = 1
any_kind (Fifo rule) = 2

-- each way of a set stands in its order exactly once
pub any_once : (rule : AnyRule) (set : ℕ) → set < (any_geometry rule).sets → EachOnce (any_geometry rule).ways (any_order rule set)
any_once (Lru rule) set within = rule.orders.once set within
any_once (Fifo rule) set within = rule.orders.once set within
