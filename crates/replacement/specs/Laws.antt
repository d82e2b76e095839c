use Rattle.std.specs.Prelude.{ℕ, ◌<◌}
use Rattle.replacement.specs.Orders.{EachOnce}
use Rattle.replacement.specs.declared.rule.Replacement.{Ghosts}

-- the law of a rule, for whoever builds on one: each way of a set stands in its order exactly once
abbrev pub Once : {Q : Type 0} → Ghosts Q → Type 0
Once {Q = Q} rk = (q : Q) (set : ℕ) → set < (rk.geometry q).sets → EachOnce (rk.geometry q).ways (rk.order q set)
