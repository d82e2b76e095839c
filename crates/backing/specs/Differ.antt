use Rattle.std.specs.Prelude.{◌≡◌, ℕ, List, [], ◌∷◌, None, Option}
use Rattle.std.proofs.Props.{props}
use Rattle.std.specs.Coded.{×_prop, Unit-prop}
use Rattle.list.specs.Keyed.{entry_of, Distinct}
use Rattle.backing.specs.declared.requests.Request.{Request}

none_prop : (r : Option Request) → IsProp (r ≡ None)
none_prop r = hlevel props

-- that no two requests have one key is shown in one way at most
pub Distinct-prop : (key : Request → ℕ) (requests : List Request) → IsProp (Distinct key requests)
Distinct-prop key [] = Unit-prop
Distinct-prop key (request ∷ requests) = ×_prop (none_prop (entry_of key (key request) requests)) (Distinct-prop key requests)
