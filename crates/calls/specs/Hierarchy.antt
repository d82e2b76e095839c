use Rattle.std.specs.Prelude.{◌≡◌, ℕ, ◌*◌, ◌%◌, ◌<◌, ◌≤◌, List, length, slice_index, IsSome}
use Rattle.line.specs.Size.{line_size}
use Rattle.memory.specs.Limits.{most_lines}
use Rattle.calls.specs.declared.setup.Setup.{Setup}

-- the image of so many lines: the byte at address a is a mod 251
pub record IsImage (lines : ℕ) (image : List ℕ) : Type 0 where
  pub len : length image ≡ lines * line_size
  pub bytes : (a : ℕ) → a < lines * line_size → slice_index image a ≡ a % 251

-- one level or two
abbrev pub HasLevels : Setup → Type 0
HasLevels s = (1 ≤ length s.levels.items) × (length s.levels.items ≤ 2)

-- a list can be run: its memory is not too large, it has one at the bottom, and one level or two stand on it
pub record CanRun (s : Setup) : Type 0 where
  pub lines : s.lines ≤ most_lines
  pub bottom : IsSome s.bottom
  pub levels : HasLevels s
