use Rattle.std.specs.Prelude.{◌≡◌, ℕ, ◌<◌, List, length, Option}
use Rattle.std.specs.Option.{option_map}
use Rattle.backing.specs.Image.{bad_line_at, counted_bad_lines, lines_in}
use Rattle.level.specs.Level.{level_rule, level_tables}
use Rattle.level.specs.declared.level.Level.{Level}
use Rattle.level_model.specs.Tables.{empty_tables}
use Rattle.line.specs.Image.{bytes_of}
use Rattle.memory.specs.Meaning.{Facts}
use Rattle.memory.specs.declared.bad_line.BadLine.{BadLine}
use Rattle.memory.specs.declared.memory.Memory as memory
use Rattle.memory.specs.declared.replies.Fault.{Fault}
use Rattle.memory.specs.declared.state.State as state
use Rattle.replacement.specs.Orders.{first_order}
use Rattle.replacement.specs.declared.geometry.Geometry.{Geometry}
use Rattle.replacement.specs.declared.rule.Replacement as rule

-- the fault of a line, if it is bad: it names this level, the line, and the cause of the pair that counts for it
abbrev pub bad_fault : ℕ → List BadLine → ℕ → Option Fault
bad_fault level bad_lines line = option_map (λ bad. record { level = level; line = line; cause = bad.cause }) (bad_line_at line (counted_bad_lines bad_lines))

-- a memory has the lines of an image and their bytes, and the faults of these bad lines, which name this level
pub record OnImage (image : List ℕ) (level : ℕ) (bad_lines : List BadLine) (f : Facts) : Type 0 where
  pub lines : f.lines ≡ lines_in (length image)
  pub contents : (line : ℕ) → f.contents line ≡ bytes_of image line
  pub bad : (line : ℕ) → f.bad line ≡ bad_fault level bad_lines line

-- a level holds nothing, and its rule has this geometry and is at its beginning: each set has its ways from the lowest up
pub record NewLevel {S Q : Type 0} {calls : memory.Ghosts S} {known : state.Ghosts S} {rk : rule.Ghosts Q} (g : Geometry) (s : Level S Q calls known rk) : Type 0 where
  pub tables : level_tables s ≡ empty_tables
  pub geometry : rk.geometry (level_rule s) ≡ g
  pub order : (set : ℕ) → set < g.sets → rk.order (level_rule s) set ≡ first_order g.ways
