use Rattle.std.proofs.Common.{◌≡◌, ℕ, ◌<◌, ◌≤◌, Bool, true, false, Some, None, Option, arith, rules}
use borrow.Author.Tests.{tests}
use Rattle.memory.specs.Tickets.{AllOpenBelow, LowestUnopened}
use Rattle.memory.proofs.tickets.unopened_ticket.Goals as goal
use Rattle.std.proofs.lemmas.Iterator.{first_from_Range}
use Rattle.std.specs.Option.{MatchOption}

-- the first number below the highest that passed is the lowest, and where none passed all are open
lowest : (is_open : ℕ → Bool) (r : Option ℕ) → MatchOption r ((k : ℕ) → 0 ≤ k → k < 4294967295 → is_open k ≡ true) (λ i. (0 ≤ i) × (i < 4294967295) × (is_open i ≡ false) × ((k : ℕ) → 0 ≤ k → k < i → is_open k ≡ true)) → MatchOption r (AllOpenBelow is_open 4294967295) (LowestUnopened is_open)
lowest is_open None h = λ k l. h k (omega arith) l
lowest is_open (Some i) h = (h.1, h.2, λ k l. h.3 k (omega arith) l)

pub returns : goal.returns
returns g c =
    let is_open = g.T.Tickets.is_open c.args.tickets.now in
    lowest is_open c.find.result (first_from_Range _ _ _ c.find.result (λ n. is_open n ≡ false) (λ n. is_open n ≡ true) c.find.ensures.ran (λ x q k. search (rules, tests)) (λ x q k. search (rules, tests)))
