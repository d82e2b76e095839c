-- players: how one is made, and what one call does
use Rattle.std.specs.Prelude.{◌≡◌, ℕ, ◌*◌, ◌<◌, ◌≤◌, Bool, true, false, List, [], length, take, drop, Option, Ok, Err, Result}
use Rattle.std.specs.Borrow.{MutBor}
use Rattle.backing.specs.Image.{lent_bytes}
use Rattle.hierarchy.specs.AnyBottom.{bottom_image}
use Rattle.hierarchy.specs.Hierarchy.{hierarchy_bottom}
use Rattle.hierarchy.specs.declared.any_rule.AnyRule.{AnyRule}
use Rattle.line.specs.Size.{line_size}
use Rattle.player.specs.Faulty.{FaultyDoes}
use Rattle.player.specs.Limits.{line_room, image_room}
use Rattle.player.specs.Lines.{Writes}
use Rattle.player.specs.Session.{NewSession, SessionDoes}
use Rattle.player.specs.Setup.{NewRules, setup_limits}
use Rattle.player.specs.declared.faulty.Faulty.TheVariants.{Refused, Ended}
use Rattle.player.specs.declared.player.FirstRecord.{FirstRecord}
use Rattle.player.specs.declared.player.Player.{Player}
use Rattle.player.specs.declared.player.Stage.{Stage}
use Rattle.player.specs.declared.player.Stage.TheVariants as stage
use Rattle.player.specs.declared.player.Unmade.{Unmade}
use Rattle.player.specs.declared.session.Session.{Session}
use Rattle.port.specs.Port.{port_below}
use Rattle.trace.specs.declared.refusal.Refusal.{Refusal}
use Rattle.trace.specs.declared.refusal.Refusal.TheVariants.{Limit, Room}

-- no player was made, and the image is handed back as it was
abbrev pub Unmakes : Refusal → MutBor (List ℕ) → Unmade → Type 0
Unmakes why image u = (u.refusal ≡ why) × (u.image ≡ image)

-- a player whose setup was refused is made, where the image is large enough: it leaves the image as it is
abbrev pub MakesFaulty : Refusal → MutBor (List ℕ) → Result Player Unmade → Type 0
MakesFaulty why image (Ok p) = (image_room ≤ length image.now) × (p.stage ≡ stage.Faulty (Refused why)) × (p.rest ≡ image)
MakesFaulty why image (Err u) = (length image.now < image_room) × Unmakes Room image u

-- how many bytes of its image a memory with the lines of a setup stands on
abbrev pub memory_size : FirstRecord → ℕ
memory_size first = line_size * first.setup.lines

-- a player over the hierarchy of a setup: its memory stands on as many bytes as the image has at its front for the setup's lines, and the
-- player keeps the others
pub record MakesSession (first : FirstRecord) (image : MutBor (List ℕ)) (p : Player) : Type 0 where
  pub limits : setup_limits first.setup first.buffer.now ≡ true
  pub room : image_room ≤ length image.now
  pub lowest : AnyRule
  pub upper : Option AnyRule
  pub rules : NewRules first.setup lowest upper
  pub bytes : MutBor (List ℕ)
  pub bytes_are : bytes.now ≡ take (memory_size first) image.now
  pub session : Session
  pub session_new : NewSession first.setup first.buffer.now first.offset lowest upper bytes session
  pub stage_is : p.stage ≡ stage.Session session
  pub rest_is : p.rest.now ≡ drop (memory_size first) image.now

-- why no player is made of a setup: its limits, then the room
abbrev pub unmade_by : Bool → Refusal
unmade_by true = Room
unmade_by false = Limit

-- what the making of a player answers
abbrev pub Makes : Result FirstRecord Refusal → MutBor (List ℕ) → Result Player Unmade → Type 0
Makes (Err why) image result = MakesFaulty why image result
Makes (Ok first) image (Ok p) = MakesSession first image p
Makes (Ok first) image (Err u) = Unmakes (unmade_by (setup_limits first.setup first.buffer.now)) image u × (setup_limits first.setup first.buffer.now ≡ true → length image.now < image_room)

-- whether the last line was written
abbrev pub stage_ended : Stage → Bool
stage_ended (stage.Faulty Ended) = true
stage_ended (stage.Faulty _) = false
stage_ended (stage.Session s) = s.progress.ended

abbrev pub player_ended : Player → Bool
player_ended p = stage_ended p.stage

-- what one call does, and the line that it writes, if it writes one
abbrev pub StageDoes : List ℕ → Stage → Option (List ℕ) → Stage → Type 0
StageDoes trace (stage.Faulty f) line (stage.Faulty g) = FaultyDoes f line g
StageDoes trace (stage.Session s) line (stage.Session t) = SessionDoes trace s line t
StageDoes trace (stage.Faulty f) line (stage.Session t) = ⊥
StageDoes trace (stage.Session s) line (stage.Faulty g) = ⊥

-- the bytes of the image that no memory stands on stay
abbrev pub PlayerDoes : List ℕ → Player → Option (List ℕ) → Player → Type 0
PlayerDoes trace p line q = StageDoes trace p.stage line q.stage × (q.rest ≡ p.rest)

-- one call with a buffer: refused where that is too short, and then nothing changes; else its line stands at the front, and all else in the
-- buffer is as it was
abbrev pub Proceeds : List ℕ → Player → List ℕ → Result ℕ Refusal → Player → List ℕ → Type 0
Proceeds trace p before (Ok count) q after = (line_room ≤ length before) × ((line : Option (List ℕ)) × PlayerDoes trace p line q × Writes line before count after)
Proceeds trace p before (Err why) q after = (length before < line_room) × (why ≡ Room) × (q ≡ p) × (after ≡ before)

-- an image that is given back in two parts: the bytes that the memory stands on, and the others; where the setup was refused, all are others
abbrev pub StageGivesBack : Stage → MutBor (List ℕ) → MutBor (List ℕ) × MutBor (List ℕ) → Type 0
StageGivesBack (stage.Faulty f) rest parts = (parts.0.now ≡ []) × (parts.1.now ≡ rest.now)
StageGivesBack (stage.Session s) rest parts = (parts.0 ≡ lent_bytes (bottom_image (hierarchy_bottom (port_below s.port)))) × (parts.1 ≡ rest)

abbrev pub GivesBack : Player → MutBor (List ℕ) × MutBor (List ℕ) → Type 0
GivesBack p parts = StageGivesBack p.stage p.rest parts
