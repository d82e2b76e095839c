use Rattle.std.specs.Prelude.{◌≡◌, ℕ, ◌⊎◌, List, ◌++◌, length, take, drop, Ok, Err, Result}
use Rattle.std.specs.List.{flat_map}
use Rattle.trace.specs.declared.refusal.Refusal.{Refusal}
use Rattle.trace.specs.declared.refusal.Refused.{Refused}
use Rattle.trace.specs.Encode.{encode}
use Rattle.trace.specs.Items.{Item}
use Rattle.trace.specs.Reading.{reading, gave, refused}
use Rattle.trace.specs.ReadUpTo.{ReadUpTo}
use Rattle.trace.specs.Trace.{Trace}
use Rattle.trace.specs.Writing.{writing}

-- a buffer whose first bytes are those of a trace before an offset, and whose others stay
abbrev pub up_to : List ℕ → ℕ → List ℕ → List ℕ
up_to trace at before = take at trace ++ drop at before

-- why copying into a buffer so long stops at an offset: the reader refuses the record there, or the writer does
abbrev pub Stopped : List ℕ → ℕ → Refusal → ℕ → Type 0
Stopped trace at r room = (reading trace at ≡ refused r at) ⊎ ((item : Item) × (to : ℕ) × (reading trace at ≡ gave item to) × (writing at room item ≡ Err r))

-- a copy: the whole trace, which is its records written again, or its records up to the one that stopped it
abbrev pub Copied : List ℕ → List ℕ → List ℕ → Result (Unit {0}) Refused → Type 0
Copied trace before after (Ok done) = (items : List Item) × Trace trace items × (flat_map encode items ≡ trace) × (after ≡ trace ++ drop (length trace) before)
Copied trace before after (Err e) = (items : List Item) × ReadUpTo trace e.offset items × (flat_map encode items ≡ take e.offset trace) × (after ≡ up_to trace e.offset before) × Stopped trace e.offset e.refusal (length before)
