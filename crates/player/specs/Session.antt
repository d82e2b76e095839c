-- Just what one call of a player does over a hierarchy. Throughout, `s` is the session before it, `t` the one after it, and `line` the line that
-- it writes, if it writes one.
use Rattle.std.specs.Prelude.{◌≡◌, ℕ, zero, suc, ◌-◌, true, false, Bool, List, [], length, Some, None, Option, Ok, Err, Result}
use Rattle.std.specs.Borrow.{MutBor}
use Rattle.std.specs.Option.{option_map}
use Rattle.std.specs.Result.{result_ok}
use Rattle.backing.specs.Image.{lent_bytes}
use Rattle.hierarchy.specs.AnyBottom.{bottom_facts, bottom_image}
use Rattle.hierarchy.specs.Hierarchy.{hierarchy_facts, known_hierarchy, hierarchy_moves, StandsOver, NewHierarchy}
use Rattle.hierarchy.specs.declared.any_bottom.AnyBottom.{AnyBottom}
use Rattle.hierarchy.specs.declared.any_rule.AnyRule.{AnyRule}
use Rattle.hierarchy.specs.declared.hierarchy.Hierarchy.{Hierarchy}
use Rattle.player.specs.Image.{FirstBytes}
use Rattle.player.specs.Lines.{answer_line, refused_line, note_line, end_line}
use Rattle.player.specs.Progress.{new_progress, used_up, stepped}
use Rattle.player.specs.Setup.{NewBottom, setup_script, setup_bad_lines}
use Rattle.player.specs.declared.session.Session.{Session}
use Rattle.port.specs.Limits.{largest_ration}
use Rattle.port.specs.Port.{CameBy, PortMoves}
use Rattle.port.specs.Refusals as port_refusals
use Rattle.port.specs.declared.answer.Redeemed.{Redeemed}
use Rattle.port.specs.declared.event.Event.{Event}
use Rattle.port.specs.declared.event.Event.TheVariants.{Load, Store, Step, Redeem, Come, RationLeft, OutCount}
use Rattle.port.specs.declared.refusal.Refusal.{Refusal}
use Rattle.port.specs.declared.refusal.Refusal.TheVariants.{Unlawful, RationUsed, TooManyOut, Busy}
use Rattle.port.specs.declared.refusal.Unredeemed.{Unredeemed}
use Rattle.memory.specs.Meaning.{Idle}
use Rattle.trace.specs.Items.{Item, setup, load, store, pass, note}
use Rattle.trace.specs.Reading.{Outcome, ended, gave, refused, reading_later}
use Rattle.trace.specs.Refusal.{refusal_code}
use Rattle.trace.specs.declared.records.Setup.{Setup}
use Rattle.trace.specs.declared.records.SetupBuffer.{SetupBuffer}

-- a session at its beginning: a port with its full ration was opened on a new hierarchy, over a new memory on bytes as they are at the start; so
-- the hierarchy is idle, and its lines, their bytes and faults are those of the memory
pub record NewSession (head : Setup) (b : SetupBuffer) (offset : ℕ) (lowest : AnyRule) (upper : Option AnyRule) (bytes : MutBor (List ℕ)) (t : Session) : Type 0 where
  pub bottom : AnyBottom
  pub bottom_new : NewBottom head.bottom (setup_script head b) (setup_bad_lines head b) bottom
  pub bottom_idle : Idle (bottom_facts bottom)
  pub first : FirstBytes (length bytes.now) (lent_bytes (bottom_image bottom)).now
  pub lent : (lent_bytes (bottom_image bottom)).ghost_name ≡ bytes.ghost_name
  pub hierarchy : Hierarchy
  pub hierarchy_new : NewHierarchy bottom lowest upper hierarchy
  pub covers : StandsOver upper (bottom_facts bottom) (hierarchy_facts hierarchy)
  pub idle : Idle (hierarchy_facts hierarchy)
  pub opened : CameBy known_hierarchy hierarchy_moves hierarchy largest_ration [] t.port
  pub progress : t.progress ≡ new_progress offset

-- the port carries out a call
abbrev pub PortDoes : Event → Session → Session → Type 0
PortDoes e s t = PortMoves known_hierarchy hierarchy_moves e s.port t.port

-- a step of the hierarchy is made and counted
abbrev pub StepMade : Session → Session → Type 0
StepMade s t = ((brought : Option ℕ) × PortDoes (Step brought) s t) × (t.progress ≡ stepped s.progress)

-- a number is redeemed; that this is refused never comes, since its answer has come
abbrev pub RedeemDoes : ℕ → Session → Option (List ℕ) → Session → Type 0
RedeemDoes number s line t =
    ((outcome : Result Redeemed Unredeemed) × PortDoes (Redeem number outcome) s t × (line ≡ option_map (answer_line number) (result_ok outcome)))
    × (t.progress ≡ s.progress)

-- the record that ends at an offset is used up, and the port is left alone
abbrev pub UsesUp : ℕ → Session → Session → Type 0
UsesUp to s t = (t.port ≡ s.port) × (t.progress ≡ used_up to s.progress)

-- what a request comes to whose record ends at an offset, by the port's answer: where too many numbers are out, or the hierarchy is busy, a step
-- is made, and the record stays the next one; any other refusal is written
abbrev pub Settles : ℕ → Result ℕ Refusal → Session → Option (List ℕ) → Session → Type 0
Settles to (Ok number) s line t = (line ≡ None) × UsesUp to s t
Settles to (Err TooManyOut) s line t = (line ≡ None) × StepMade s t
Settles to (Err Busy) s line t = (line ≡ None) × StepMade s t
Settles to (Err RationUsed) s line t = (line ≡ Some (refused_line s.progress.index (port_refusals.refusal_code RationUsed))) × UsesUp to s t
Settles to (Err (Unlawful why)) s line t = (line ≡ Some (refused_line s.progress.index (port_refusals.refusal_code (Unlawful why)))) × UsesUp to s t

-- a request is made of the port, and then it comes to what the port's answer says
abbrev pub AsksPort : (Result ℕ Refusal → Event) → ℕ → Session → Option (List ℕ) → Session → Type 0
AsksPort event to s line t = (outcome : Result ℕ Refusal) × (d : Session) × PortDoes (event outcome) s d × (d.progress ≡ s.progress) × Settles to outcome d line t

-- a record that ends at an offset is carried out; that a later record is a setup never comes
abbrev pub ItemDoes : Item → ℕ → Session → Option (List ℕ) → Session → Type 0
ItemDoes (load size address) to s line t = AsksPort (λ outcome. Load size address outcome) to s line t
ItemDoes (store size address value) to s line t = AsksPort (λ outcome. Store size address value outcome) to s line t
ItemDoes (pass steps) to s line t = (line ≡ None) × (t.port ≡ s.port) × (t.progress ≡ record (used_up to s.progress) { pass = steps })
ItemDoes (note text) to s line t = (line ≡ Some (note_line text)) × UsesUp to s t
ItemDoes (setup head script bad) to s line t = (line ≡ None) × UsesUp to s t

-- the end, while so many numbers are out: a step; with none out, the last line
abbrev pub EndDoes : ℕ → Session → Option (List ℕ) → Session → Type 0
EndDoes zero s line t =
    ((left : ℕ) × PortDoes (RationLeft left) s s × (line ≡ Some (end_line (largest_ration - left) s.progress.steps)))
    × (t.port ≡ s.port) × (t.progress ≡ record s.progress { ended = true })
EndDoes (suc others) s line t = (line ≡ None) × StepMade s t

abbrev pub FinishDoes : Session → Option (List ℕ) → Session → Type 0
FinishDoes s line t = (out : ℕ) × PortDoes (OutCount out) s s × EndDoes out s line t

-- what the reader says is carried out; a refused record is written, and nothing more of the trace is read
abbrev pub OutcomeDoes : Outcome → Session → Option (List ℕ) → Session → Type 0
OutcomeDoes ended s line t = FinishDoes s line t
OutcomeDoes (gave item to) s line t = ItemDoes item to s line t
OutcomeDoes (refused why at) s line t = (line ≡ Some (refused_line s.progress.index (refusal_code why))) × (t.port ≡ s.port) × (t.progress ≡ record s.progress { next = None })

-- reading on from where the next record begins, if there is one
abbrev pub reading_next : List ℕ → Option ℕ → Outcome
reading_next trace None = ended
reading_next trace (Some at) = reading_later trace at

abbrev pub ReadDoes : List ℕ → Session → Option (List ℕ) → Session → Type 0
ReadDoes trace s line t = OutcomeDoes (reading_next trace s.progress.next) s line t

-- a step of a pass that has so many left, or else the trace is read on
abbrev pub PassDoes : List ℕ → ℕ → Session → Option (List ℕ) → Session → Type 0
PassDoes trace zero s line t = ReadDoes trace s line t
PassDoes trace (suc left) s line t = (line ≡ None) × StepMade (record s { progress = record s.progress { pass = left } }) t

-- the number whose answer has come is redeemed, or else a pass goes on
abbrev pub ComeDoes : List ℕ → Option ℕ → Session → Option (List ℕ) → Session → Type 0
ComeDoes trace (Some number) s line t = RedeemDoes number s line t
ComeDoes trace None s line t = PassDoes trace s.progress.pass s line t

-- one call, once the last line was written or before
abbrev pub CallDoes : List ℕ → Bool → Session → Option (List ℕ) → Session → Type 0
CallDoes trace true s line t = (line ≡ None) × (t ≡ s)
CallDoes trace false s line t = (told : Option ℕ) × PortDoes (Come told) s s × ComeDoes trace told s line t

abbrev pub SessionDoes : List ℕ → Session → Option (List ℕ) → Session → Type 0
SessionDoes trace s line t = CallDoes trace s.progress.ended s line t
