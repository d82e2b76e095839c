use Rattle.std.specs.Prelude.{◌≡◌, ℕ, List, [], ◌∷◌, ◌++◌}
use Rattle.trace.specs.Items.{Item}
use Rattle.trace.specs.Reading.{reading, gave}

-- the records of a trace from its front up to an offset, read one after the other
pub data ReadUpTo (trace : List ℕ) : ℕ → List Item → Type 0 where
  start : ReadUpTo trace 0 []
  further : {at to : ℕ} {item : Item} {items : List Item} → ReadUpTo trace at items → reading trace at ≡ gave item to → ReadUpTo trace to (items ++ (item ∷ []))
