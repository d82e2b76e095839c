use Rattle.std.specs.Prelude.{◌≡◌, ℕ, ◌<◌, ◌≤◌, List, [], length, Some, None, Ok, Err, Option, Result}
use Rattle.list.specs.Keyed.{without}
use Rattle.memory.specs.Replies.{read_due, write_due, status_of, delivered}
use Rattle.memory.specs.declared.bad_line.BadLine.{BadLine}
use Rattle.memory.specs.declared.refusal.Refusal.{Refusal}
use Rattle.memory.specs.declared.refusal.Refusal.TheVariants.{NoLine, Busy}
use Rattle.memory.specs.declared.replies.Answer.{Answer}
use Rattle.memory.specs.declared.replies.Reply.{Reply}
use Rattle.backing.specs.Image.{level_of, bad_lines_of, counted_bad_lines, line_count, contents_of, fault_of, image_written}
use Rattle.backing.specs.Open.{ticket_of, request_of, request_at, with_request}
use Rattle.backing.specs.Requests.{open_of}
use Rattle.backing.specs.declared.backing.Backing.{Backing}
use Rattle.backing.specs.declared.image.Image.{Image}
use Rattle.backing.specs.declared.requests.Request.{Request}

-- the image of a backing store
abbrev pub image_of : {limit : ℕ} → Backing limit → Image
image_of s = s.image

-- the requests that are open on it, oldest first
abbrev pub open_requests : {limit : ℕ} → Backing limit → List Request
open_requests s = open_of s.requests

-- a new backing store, with a level and bad lines: no request is open
abbrev pub Begins : {limit : ℕ} → ℕ → List BadLine → Backing limit → Type 0
Begins level bad_lines s = (level_of (image_of s) ≡ level) × (bad_lines_of (image_of s) ≡ counted_bad_lines bad_lines) × (open_requests s ≡ [])

-- a request for a line, which makes this of the image and to which this reply is due: it is taken, under a ticket that none has; or nothing changes, since there is no such line, or there is one and as many are open as can be
abbrev pub Asks : {limit : ℕ} → ℕ → Backing limit → ℕ → Image → Reply → Result ℕ Refusal → Backing limit → Type 0
Asks most s line image reply (Ok ticket) t =
    (line < line_count (image_of s))
    × (length (open_requests s) < most)
    × (request_of ticket (open_requests s) ≡ None)
    × (image_of t ≡ image)
    × (open_requests t ≡ with_request (open_requests s) ticket reply)
Asks most s line image reply (Err NoLine) t = (line_count (image_of s) ≤ line) × (t ≡ s)
Asks most s line image reply (Err Busy) t = (line < line_count (image_of s)) × (length (open_requests s) ≡ most) × (t ≡ s)

-- a read: what is due to it are the bytes that the line has now, or its fault
abbrev pub Reads : {limit : ℕ} → ℕ → Backing limit → ℕ → Result ℕ Refusal → Backing limit → Type 0
Reads most s line r t = Asks most s line (image_of s) (read_due (fault_of (image_of s) line) (contents_of (image_of s) line)) r t

-- a write: it is laid on the image now, and what is due to it is "done", or the line's fault
abbrev pub Writes : {limit : ℕ} → ℕ → Backing limit → ℕ → ℕ → List ℕ → Result ℕ Refusal → Backing limit → Type 0
Writes most s line mask new r t = Asks most s line (image_written (image_of s) line mask new) (write_due (fault_of (image_of s) line)) r t

-- an answer to this request, which is then no longer open, or to none; the buffer holds a line that was read, and is else untouched
abbrev pub AnswersOne : {limit : ℕ} → Option Request → Backing limit → List ℕ → Option Answer → Backing limit → List ℕ → Type 0
AnswersOne None s before r t after = (r ≡ None) × (t ≡ s) × (after ≡ before)
AnswersOne (Some request) s before r t after =
    (r ≡ Some (record { ticket = request.ticket; status = status_of request.reply }))
    × (image_of t ≡ image_of s)
    × (open_requests t ≡ without ticket_of request.ticket (open_requests s))
    × (after ≡ delivered request.reply before)

-- an answer to the open request at an index, oldest first, or to none, where no index is given or none stands there
abbrev pub AnswersAt : {limit : ℕ} → Option ℕ → Backing limit → List ℕ → Option Answer → Backing limit → List ℕ → Type 0
AnswersAt index s before r t after = AnswersOne (request_at index (open_requests s)) s before r t after
