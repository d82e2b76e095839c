-- calls of a player, one after another
use Rattle.std.specs.Prelude.{◌≡◌, ℕ, suc, ◌+◌, ◌*◌, List, [], ◌∷◌, ◌++◌, Some, None, Option}
use Rattle.hierarchy.specs.Hierarchy.{known_hierarchy, hierarchy_moves}
use Rattle.hierarchy.specs.declared.hierarchy.Hierarchy.{Hierarchy}
use Rattle.player.specs.Limits.{limited}
use Rattle.player.specs.Lines.{end_line}
use Rattle.player.specs.Player.{PlayerDoes}
use Rattle.player.specs.declared.player.Player.{Player}
use Rattle.player.specs.declared.player.Stage.{Stage}
use Rattle.player.specs.declared.player.Stage.TheVariants as stage
use Rattle.player.specs.declared.session.Session.{Session}
use Rattle.port.specs.Limits.{largest_ration}
use Rattle.port.specs.Port.{CameBy, port_below}
use Rattle.port.specs.Promise.{accepted}
use Rattle.port.specs.declared.event.Event.{Event}
use Rattle.port.specs.declared.event.Event.TheVariants.{Step}

-- lines with one behind them, if there is one
abbrev pub with_line : Option (List ℕ) → List (List ℕ) → List (List ℕ)
with_line None lines = lines
with_line (Some line) lines = lines ++ (line ∷ [])

-- so many calls led from one player to another, and wrote these lines
pub data Calls (trace : List ℕ) (start : Player) : ℕ → List (List ℕ) → Player → Type 0 where
  none : Calls trace start 0 [] start
  another : {calls : ℕ} {lines : List (List ℕ)} {p q : Player} (line : Option (List ℕ)) → Calls trace start calls lines p → PlayerDoes trace p line q → Calls trace start (suc calls) (with_line line lines) q

-- no more calls are made for a trace of so many bytes: each byte is worth the steps of the longest pass and one call
abbrev pub most_calls : ℕ → ℕ
most_calls size = 1001 * size + 2

-- how many steps a port made, of its calls since it was opened, the latest first
abbrev pub steps_in : List Event → ℕ
steps_in [] = 0
steps_in (Step brought ∷ log) = steps_in log + 1
steps_in (_ ∷ log) = steps_in log

-- what the last line of a play over a hierarchy counts: the port came by these calls to its state, since it was opened with its full ration on the
-- hierarchy as it began; the line tells how many requests they accepted and how many steps they made
pub record Counted (began : Hierarchy) (s : Session) (lines : List (List ℕ)) : Type 0 where
  pub log : List Event
  pub came : CameBy known_hierarchy hierarchy_moves began largest_ration log s.port
  pub body : List (List ℕ)
  pub lines_are : lines ≡ body ++ (end_line (accepted log) (limited (steps_in log)) ∷ [])

-- the same of a play that began with one player's stage and ended with another's
abbrev pub LastCounts : Stage → Stage → List (List ℕ) → Type 0
LastCounts (stage.Session first) (stage.Session last) lines = Counted (port_below first.port) last lines
LastCounts (stage.Faulty first) (stage.Faulty last) lines = Unit {0}
LastCounts (stage.Session first) (stage.Faulty last) lines = ⊥
LastCounts (stage.Faulty first) (stage.Session last) lines = ⊥
