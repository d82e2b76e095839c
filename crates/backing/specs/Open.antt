use Rattle.std.specs.Prelude.{ℕ, Bool, List, [], ◌∷◌, ◌++◌, Some, None, Option, is_some, min, slice_get}
use Rattle.std.specs.Option.{option_map}
use Rattle.list.specs.Keyed.{entry_of}
use Rattle.memory.specs.Tickets.{ticket_count}
use Rattle.memory.specs.declared.replies.Reply.{Reply}
use Rattle.backing.specs.declared.requests.Request.{Request}

-- the ticket of a request
abbrev pub ticket_of : Request → ℕ
ticket_of request = request.ticket

-- the open request that has a ticket
abbrev pub request_of : ℕ → List Request → Option Request
request_of ticket requests = entry_of ticket_of ticket requests

-- whether a ticket is open
abbrev pub is_open : List Request → ℕ → Bool
is_open requests ticket = is_some (request_of ticket requests)

-- the reply that is due to a ticket
abbrev pub due_of : List Request → ℕ → Option Reply
due_of requests ticket = option_map (λ request. request.reply) (request_of ticket requests)

-- how many requests can be open under a limit: as many as it says, or as many as there are tickets, whichever are fewer
abbrev pub most_open : ℕ → ℕ
most_open limit = min limit ticket_count

-- behind the requests that were open one more, to which this reply is due
abbrev pub with_request : List Request → ℕ → Reply → List Request
with_request requests ticket reply = requests ++ (record { ticket = ticket; reply = reply } ∷ [])

-- the open request at an index, oldest first, where an index is given and a request stands there
abbrev pub request_at : Option ℕ → List Request → Option Request
request_at None requests = None
request_at (Some i) requests = slice_get requests i
