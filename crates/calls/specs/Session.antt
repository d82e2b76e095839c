use Rattle.std.specs.Prelude.{◌≡◌, ℕ, ◌+◌, ◌==◌, Bool, false, List, [], ◌∷◌, ◌++◌, length, position, replicate, slice_set, Option, None, Some, Result, Ok, Err, IsErr, MatchOption, MatchResult}
use Rattle.anyhow.specs.declared.error.Error.{Error}
use Rattle.line.specs.Size.{line_size}
use Rattle.memory.specs.declared.memory.Memory as memory
use Rattle.memory.specs.declared.refusal.Refusal.{Refusal}
use Rattle.memory.specs.declared.replies.Answer.{Answer}
use Rattle.memory.specs.declared.replies.Reply.{Reply}
use Rattle.memory.specs.declared.replies.Reply.TheVariants as reply
use Rattle.memory.specs.declared.replies.Status.{Status}
use Rattle.memory.specs.declared.replies.Status.TheVariants as status
use Rattle.memory.specs.declared.state.State as state
use Rattle.replacement.specs.declared.rule.Replacement as rule
use Rattle.level.specs.Level.{LevelReads, LevelWrites, LevelSteps, level_standing}
use Rattle.level.specs.declared.level.Level.{Level}
use Rattle.calls.specs.declared.call.Call.{Call}
use Rattle.calls.specs.declared.call.Call.TheVariants as call
use Rattle.calls.specs.declared.outcome.Outcome.{Outcome}
use Rattle.calls.specs.declared.outcome.Outcome.TheVariants as outcome

-- whether a request is open under this ticket
abbrev pub is_open_as : ℕ → Option ℕ → Bool
is_open_as ticket (Some other) = other == ticket
is_open_as ticket None = false

-- the reply of an answer, and of the bytes that came with it
abbrev pub reply_of : Status → List ℕ → Reply
reply_of status.Line bytes = reply.Line bytes
reply_of status.Done bytes = reply.Done
reply_of (status.Fault fault) bytes = reply.Fault fault

-- what is answered to a request at once: one that was taken stands behind the others, under the next number, and a refusal
-- changes nothing; an error, which is want of memory, changes nothing either
abbrev pub Asked : List (Option ℕ) → Result ℕ Refusal → Result Outcome Error → List (Option ℕ) → Type 0
Asked old (Ok ticket) r new =
    MatchResult r (λ o. (o ≡ outcome.Taken (length new)) × (new ≡ old ++ Some ticket ∷ [])) (λ _. new ≡ old)
Asked old (Err refusal) r new = (r ≡ Ok (outcome.Refused refusal)) × (new ≡ old)

-- what an answer makes of the requests: it closes the first that is open under its ticket, whose number counts from 1; where
-- there is none, it is an error and changes nothing
abbrev pub Closed : List (Option ℕ) → Answer → List ℕ → Result Outcome Error → List (Option ℕ) → Type 0
Closed old answer bytes r new =
    MatchOption (position (is_open_as answer.ticket) old)
    (IsErr r × (new ≡ old))
    (λ index. (r ≡ Ok (outcome.Answered (index + 1) (reply_of answer.status bytes))) × (new ≡ slice_set old index None))

-- what a step makes of them
abbrev pub Stepped : List (Option ℕ) → Option Answer → List ℕ → Result Outcome Error → List (Option ℕ) → Type 0
Stepped old None bytes r new = (r ≡ Ok outcome.Nothing) × (new ≡ old)
Stepped old (Some answer) bytes r new = Closed old answer bytes r new

module _ {S Q : Type 0} {calls : memory.Ghosts S} {known : state.Ghosts S} {rk : rule.Ghosts Q} where
  -- a call: what the level does, and what the requests make of its answer
  abbrev pub Made : Level S Q calls known rk → List (Option ℕ) → Call → Result Outcome Error → Level S Q calls known rk → List (Option ℕ) → Type 0
  Made s old (call.Read line) r t new = (answer : Result ℕ Refusal) × LevelReads s line answer t × Asked old answer r new
  Made s old (call.Write line mask bytes) r t new =
      (answer : Result ℕ Refusal) × LevelWrites s line mask bytes answer t × Asked old answer r new
  Made s old call.Step r t new =
      (answer : Option Answer) × ((after : List ℕ) × LevelSteps s (replicate line_size 0) answer t after × Stepped old answer after r new)
  Made s old (call.Standing line) r t new = (r ≡ Ok (outcome.Standing (level_standing s line))) × (t ≡ s) × (new ≡ old)
