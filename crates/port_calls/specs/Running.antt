-- what it is to run a scenario
use Rattle.std.specs.Prelude.{◌≡◌, ℕ, ◌*◌, ◌%◌, ◌<◌, List, length, map, slice_index, None}
use Rattle.backing.specs.Clock.{counted_latency}
use Rattle.backing.specs.Script.{counted_script}
use Rattle.hierarchy.specs.Pace.{two_levels_pace}
use Rattle.line.specs.Size.{line_size}
use Rattle.port.specs.declared.event.Call.{Call}
use Rattle.port.specs.declared.run.Entry.{Entry}
use Rattle.port_calls.specs.declared.scenarios.Hierarchy.{Hierarchy}
use Rattle.port_calls.specs.declared.scenarios.Hierarchy.TheVariants.{OnOrdered, OnScripted}
use Rattle.port_calls.specs.declared.scenarios.Scenario.{Scenario}
use Rattle.runs.specs.Kept.{KeptOnImage}
use Rattle.hierarchy.specs.Pace.{one_level_pace}

-- the image of so many lines: the byte at address a is a mod 251
pub record IsImage (lines : ℕ) (image : List ℕ) : Type 0 where
  pub len : length image ≡ lines * line_size
  pub bytes : (a : ℕ) → a < lines * line_size → slice_index image a ≡ a % 251

-- a call that is not made yet
abbrev pub not_made : Call → Entry
not_made call = record { call = call; event = None }

-- the pace of a hierarchy
abbrev pub pace_of : Hierarchy → ℕ
pace_of (OnOrdered latency level) = one_level_pace (counted_latency latency)
pace_of (OnScripted script lower upper) = two_levels_pace (length (counted_script script.now))

-- what became of the calls of a scenario: the port kept its promise in them, on a hierarchy over the image of so many lines
pub record RunsScenario (s : Scenario) (entries : List Entry) : Type 0 where
  pub image : List ℕ
  pub is_image : IsImage s.lines image
  pub kept : KeptOnImage image s.bad_lines.now (pace_of s.hierarchy) s.ration (map not_made s.calls.now) entries
