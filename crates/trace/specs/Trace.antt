use Rattle.std.specs.Prelude.{◌≡◌, ℕ, Bool, true, false, List, [], ◌∷◌}
use Rattle.trace.specs.Decode.{decode}
use Rattle.trace.specs.Items.{Item}
use Rattle.trace.specs.Parsed.{Took}

-- these bytes consist of these records to the last byte, read from the trace's first record on or from a later one
pub data ConsistsOf : Bool → List ℕ → List Item → Type 0 where
  finished : ConsistsOf false [] []
  another : {first : Bool} {bs rest : List ℕ} {item : Item} {items : List Item} → decode first bs ≡ Took item rest → ConsistsOf false rest items → ConsistsOf first bs (item ∷ items)

-- a whole trace, with a setup first and only there
abbrev pub Trace : List ℕ → List Item → Type 0
Trace bs items = ConsistsOf true bs items
