-- what the open requests keep: a ticket is left for one more, and none is too many
use Rattle.std.proofs.Common.{ℕ, suc, ◌<◌, ◌≤◌, Bool, true, false, cond, eqb, List, [], ◌∷◌, length, arith}
use Rattle.list.proofs.Distinct.{as_many}
use Rattle.list.specs.Keyed.{without}
use Rattle.memory.specs.Tickets.{ticket_count, AllOpenBelow}
use Rattle.backing.specs.Open.{ticket_of, is_open, most_open}
use Rattle.backing.specs.declared.requests.Request.{Request}

-- not all tickets are open while one more can be
pub ticket_left : (requests : List Request) (limit : ℕ) → length requests < most_open limit → AllOpenBelow (is_open requests) ticket_count → ⊥
ticket_left requests limit room all = let many = as_many ticket_of ticket_count requests all in omega arith

fewer_step : (request : Request) (rest left : List Request) (b : Bool) → length left ≤ length rest → length (cond b rest (request ∷ left)) ≤ suc (length rest)
fewer_step request rest left true h = omega arith
fewer_step request rest left false h = omega arith

-- no more are open once one was taken out
fewer : (requests : List Request) (ticket : ℕ) → length (without ticket_of ticket requests) ≤ length requests
fewer [] ticket = omega arith
fewer (request ∷ requests) ticket = fewer_step request requests (without ticket_of ticket requests) (eqb request.ticket ticket) (fewer requests ticket)

pub still_few : (limit : ℕ) (requests : List Request) (ticket : ℕ) → length requests ≤ most_open limit → length (without ticket_of ticket requests) ≤ most_open limit
still_few limit requests ticket few = let less = fewer requests ticket in omega arith
