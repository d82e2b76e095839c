use Rattle.std.specs.Prelude.{◌≡◌, ℕ, ◌⊎◌, List, [], ◌∷◌, ◌++◌, codes, Option, Some, None, Result, Ok, IsOk, OnOk, OnErr, Vec}
use Rattle.std.specs.declared.alloc.Global.{Global}
use Rattle.anyhow.specs.declared.error.Error.{Error}
use Rattle.hex.specs.Hex.{decode_of}
use Rattle.memory.specs.declared.bad_line.BadLine.{BadLine}
use Rattle.calls.specs.declared.setup.Bottom.{Bottom}
use Rattle.calls.specs.declared.setup.Bottom.TheVariants.{Ordered, Scripted}
use Rattle.calls.specs.declared.setup.Rule.{Rule}
use Rattle.calls.specs.declared.setup.Rule.TheVariants.{Lru, Fifo}
use Rattle.calls.specs.declared.setup.Setup.{Setup}
use Rattle.calls.specs.declared.setup.Shape.{Shape}
use Rattle.calls.specs.Words.{Words, word, HasForm, number_in, IsNumberIn}

-- the name of a rule
abbrev pub rule_name : Rule → List ℕ
rule_name Lru = codes "lru"
rule_name Fifo = codes "fifo"

-- a setup has these parts
pub record Has (count : ℕ) (memory : Option Bottom) (bads : List BadLine) (shapes : List Shape) (s : Setup) : Type 0 where
  pub lines : s.lines ≡ count
  pub bottom : s.bottom ≡ memory
  pub bad_lines : s.bad_lines.items ≡ bads
  pub levels : s.levels.items ≡ shapes

-- a setup of so many lines, with nothing else in it
abbrev pub IsNew : ℕ → Setup → Type 0
IsNew lines s = Has lines None [] [] s

-- the parts of a setup stay
abbrev pub Stays : Setup → Setup → Type 0
Stays old new = Has old.lines old.bottom old.bad_lines.items old.levels.items new

-- a line names this memory for the bottom
abbrev pub SetsBottom : Bottom → Setup → Setup → Type 0
SetsBottom bottom old new = Has old.lines (Some bottom) old.bad_lines.items old.levels.items new

-- a line adds this bad line
abbrev pub AddsBadLine : BadLine → Setup → Setup → Type 0
AddsBadLine bad old new = Has old.lines old.bottom (old.bad_lines.items ++ bad ∷ []) old.levels.items new

-- a line adds a level of this shape
abbrev pub AddsLevel : Shape → Setup → Setup → Type 0
AddsLevel shape old new = Has old.lines old.bottom old.bad_lines.items (old.levels.items ++ shape ∷ []) new

-- the shape of so many sets and so many ways each, with the rule of this name
pub record IsShape (m n : ℕ) (name : List ℕ) (shape : Shape) : Type 0 where
  pub sets : shape.geometry.sets ≡ m
  pub ways : shape.geometry.ways ≡ n
  pub rule : rule_name shape.rule ≡ name

-- `bottom NAME WORD`
abbrev pub IsBottomLine : Words → List ℕ → Type 0
IsBottomLine words name = HasForm words (codes "bottom") 3 × (word words 1 ≡ name)

-- what a line of words makes of a setup
pub record TakesLine (words : Words) (old : Setup) (r : Result Unit Error) (new : Setup) : Type 0 where
  pub ordered : IsBottomLine words (codes "ordered") → OnOk r
      (IsNumberIn 10 8 (word words 2) × SetsBottom (Ordered (number_in 10 (word words 2))) old new)
  pub accepts_ordered : IsBottomLine words (codes "ordered") → IsNumberIn 10 8 (word words 2) → IsOk r
  pub scripted : IsBottomLine words (codes "scripted") → OnOk r
      ((script : Vec ℕ Global) × (decode_of (word words 2) ≡ Ok script.items) × SetsBottom (Scripted script) old new)
  pub bad : HasForm words (codes "bad") 3 → OnOk r
      (IsNumberIn 10 32 (word words 1) × IsNumberIn 10 8 (word words 2)
      × AddsBadLine (record { line = number_in 10 (word words 1); cause = number_in 10 (word words 2) }) old new)
  pub level : HasForm words (codes "level") 4 → OnOk r
      (IsNumberIn 10 64 (word words 1) × IsNumberIn 10 64 (word words 2)
      × ((shape : Shape) × IsShape (number_in 10 (word words 1)) (number_in 10 (word words 2)) (word words 3) shape × AddsLevel shape old new))
  pub others : IsOk r → IsBottomLine words (codes "ordered") ⊎ (IsBottomLine words (codes "scripted")
      ⊎ (HasForm words (codes "bad") 3 ⊎ HasForm words (codes "level") 4))
  pub err : OnErr r (Stays old new)
