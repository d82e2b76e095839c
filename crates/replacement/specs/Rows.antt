use Rattle.std.specs.Prelude.{ℕ, List, [], take, slice_index_or}
use Rattle.replacement.specs.declared.orders.Orders.{Orders}

-- the order of a set
abbrev pub order_of : Orders → ℕ → List ℕ
order_of o set = take o.geometry.ways (slice_index_or o.rows set [])
