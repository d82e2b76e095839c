use Rattle.std.specs.Prelude.{◌≡◌, ℕ, ◌+◌, ◌-◌, List, length, IfOk, Result}
use Rattle.std.specs.Borrow.{Bor}
use Rattle.trace.specs.declared.refusal.Refusal.{Refusal}
use Rattle.trace.specs.declared.records.SetupBuffer.{SetupBuffer}
use Rattle.trace.specs.declared.records.Record.{Record}
use Rattle.trace.specs.declared.records.Record.TheVariants.{Setup as SetupRecord, Load, Store, Pass, Note}

-- a note's text ends where its record ends, and its offset is where it begins
abbrev pub Noted : Record → ℕ → Type 0
Noted (SetupRecord s) to = Unit {0}
Noted (Load size address) to = Unit {0}
Noted (Store size address value) to = Unit {0}
Noted (Pass steps) to = Unit {0}
Noted (Note text offset) to = offset + length text.now ≡ to

-- the same of a record that was read off a trace of so many bytes
abbrev pub NotedRead : ℕ → Result ((Record × SetupBuffer) × Bor (List ℕ)) Refusal → Type 0
NotedRead end r = IfOk r (λ s. Noted s.0.0 (end - length s.1.now))

-- the same of a record behind the first
abbrev pub NotedLaterRead : ℕ → Result (Record × Bor (List ℕ)) Refusal → Type 0
NotedLaterRead end r = IfOk r (λ s. Noted s.0 (end - length s.1.now))
