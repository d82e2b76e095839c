use Rattle.std.specs.Prelude.{◌≡◌, ℕ, ◌<◌, List, length, Some, None, Option}
use Rattle.list.specs.Keyed.{without}
use Rattle.memory.specs.declared.replies.Reply.{Reply}
use Rattle.backing.specs.Open.{ticket_of, request_of, request_at, with_request}
use Rattle.backing.specs.declared.requests.Request.{Request}
use Rattle.backing.specs.declared.requests.Requests.{Requests}

-- the requests that are open, oldest first
abbrev pub open_of : {limit : ℕ} → Requests limit → List Request
open_of s = s.list.items

-- a request is opened under a ticket that none has; or none is, exactly where as many are open as can be
abbrev pub Accepts : {limit : ℕ} → ℕ → Requests limit → Reply → Option ℕ → Requests limit → Type 0
Accepts most s reply None t = (length (open_of s) ≡ most) × (t ≡ s)
Accepts most s reply (Some ticket) t = (length (open_of s) < most) × (request_of ticket (open_of s) ≡ None) × (open_of t ≡ with_request (open_of s) ticket reply)

-- the request at an index, which is then no longer open; or nothing, where none stands there
abbrev pub Closes : {limit : ℕ} → ℕ → Requests limit → Option Request → Requests limit → Type 0
Closes index s None t = (request_at (Some index) (open_of s) ≡ None) × (t ≡ s)
Closes index s (Some request) t = (request_at (Some index) (open_of s) ≡ Some request) × (open_of t ≡ without ticket_of request.ticket (open_of s))
