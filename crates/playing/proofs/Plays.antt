-- a player of a whole trace
use Rattle.std.proofs.Common.{◌≡◌, ℕ, suc, ◌+◌, ◌*◌, ◌<◌, ◌≤◌, true, false, List, [], ◌∷◌, ◌++◌, length, take, drop, Some, None, Option, Ok, Err, Result, sym, refl, ap, ◌∙◌, subst, arith}
use Rattle.std.proofs.lemmas.Bool.{and_parts}
use Rattle.std.proofs.lemmas.Grind.{common_steps}
use Rattle.std.proofs.lemmas.List.{append-nil, length-take-le, take_at}
use Rattle.std.proofs.lemmas.List.Folds.{concat-append}
use Rattle.std.specs.List.{concat}
use Rattle.std.specs.Borrow.{MutBor}
use Rattle.std.specs.Result.{OnOk, result_unwrap_or}
use Rattle.hierarchy.specs.Hierarchy.{hierarchy_facts}
use Rattle.hierarchy.specs.declared.hierarchy.Hierarchy.{Hierarchy}
use Rattle.line.specs.Size.{line_size}
use Rattle.memory.specs.Limits.{most_lines}
use Rattle.memory.specs.declared.bad_line.BadLine.{BadLine}
use Rattle.player.specs.Limits.{line_room, image_room}
use Rattle.player.specs.Lines.{line_bytes, refused_line, end_line}
use Rattle.player.specs.Player.{memory_size, Makes, player_ended, stage_ended, StageDoes, PlayerDoes, Proceeds}
use Rattle.player.specs.Setup.{setup_limits, setup_script, setup_bad_lines}
use Rattle.player.specs.declared.faulty.Faulty.TheVariants.{Refused, Cut, Ended}
use Rattle.player.specs.declared.player.FirstRecord.{FirstRecord}
use Rattle.player.specs.declared.player.Player.{Player}
use Rattle.player.specs.declared.player.Stage.{Stage}
use Rattle.player.specs.declared.player.Stage.TheVariants as stage
use Rattle.player.specs.declared.player.Unmade.{Unmade}
use Rattle.player.specs.declared.session.Session.{Session}
use Rattle.playing.proofs.Goes.{left_in, before_end, Is, Over, session_goes}
use Rattle.playing.proofs.Stands.{Opened}
use Rattle.playing.proofs.Start.{first_given, session_opened, session_starts, session_bounded}
use Rattle.playing.specs.Agreement.{Agrees}
use Rattle.playing.specs.Calls.{with_line, Calls, none, another, Counted, LastCounts, most_calls}
use Rattle.playing.specs.Played.{FirstOf, MadeFor, PlayedLines}
use Rattle.port.specs.Port.{port_below, port_numbers}
use Rattle.trace.proofs.NumberSpelled.{Bytes}
use Rattle.trace.specs.ReadUpTo.{start}
use Rattle.trace.specs.Reading.{reading, refused}
use Rattle.trace.specs.Refusal.{refusal_code}
use Rattle.trace.specs.Numbers.{within}
use Rattle.trace.specs.declared.records.Setup.{Setup}
use Rattle.trace.specs.declared.records.SetupBuffer.{SetupBuffer}
use Rattle.trace.specs.declared.refusal.Refusal.{Refusal}

-- what is left to do for a play
abbrev pub stage_left : List ℕ → Stage → ℕ
stage_left trace (stage.Faulty (Refused why)) = 2
stage_left trace (stage.Faulty Cut) = 1
stage_left trace (stage.Faulty Ended) = 0
stage_left trace (stage.Session s) =
    1001 * left_in trace s.progress.next + s.progress.pass + (2 * (hierarchy_facts (port_below s.port)).owed + length (port_numbers s.port).come.items) + before_end s.progress.ended

-- a setup within its limits names no more lines than a memory has
few_lines : (s : Setup) (b : SetupBuffer) → setup_limits s b ≡ true → s.lines ≤ most_lines
few_lines s b e = let w : within 1 most_lines s.lines ≡ true = (and_parts (within 1 most_lines s.lines) _ e).0 in grind (arith, common_steps)

-- a stage is over this hierarchy
abbrev pub BeganOn : Stage → Hierarchy → Type 0
BeganOn (stage.Session s) h = port_below s.port ≡ h
BeganOn (stage.Faulty f) h = ⊥

-- a stage is of a refused setup
abbrev pub BeganFaulty : Stage → Type 0
BeganFaulty (stage.Session s) = ⊥
BeganFaulty (stage.Faulty f) = Unit {0}

module _ (trace : List ℕ) (bytes : Bytes trace) (began : Stage) where
  -- a session in a play that has written these lines
  pub record SessionIs (written : List (List ℕ)) (s : Session) : Type 0 where
    pub head : Setup
    pub script : List ℕ
    pub bad : List BadLine
    pub hierarchy : Hierarchy
    pub began_on : BeganOn began hierarchy
    pub opened : Opened head.lines bad (hierarchy_facts hierarchy)
    pub is : Is trace bytes head script bad hierarchy opened s.progress.ended written s.progress s.port

  -- a play that has written these lines
  abbrev pub StageIs : List (List ℕ) → Stage → Type 0
  StageIs written (stage.Faulty (Refused why)) = (written ≡ []) × (reading trace 0 ≡ refused why 0) × BeganFaulty began
  StageIs written (stage.Faulty Cut) = (why : Refusal) × (written ≡ refused_line 0 (refusal_code why) ∷ []) × (reading trace 0 ≡ refused why 0) × BeganFaulty began
  StageIs written (stage.Faulty Ended) = (why : Refusal) × (written ≡ refused_line 0 (refusal_code why) ∷ end_line 0 0 ∷ []) × (reading trace 0 ≡ refused why 0) × BeganFaulty began
  StageIs written (stage.Session s) = SessionIs written s

  -- one call more
  stage_goes : (written : List (List ℕ)) (line : Option (List ℕ)) (p q : Stage) → stage_ended p ≡ false → StageIs written p → StageDoes trace p line q → StageIs (with_line line written) q × (stage_left trace q < stage_left trace p)
  stage_goes written line (stage.Faulty (Refused why)) (stage.Faulty g) not_ended is does =
      let lines : with_line line written ≡ refused_line 0 (refusal_code why) ∷ [] = ap (λ l. with_line l written) does.0 ∙ ap (λ w. w ++ (refused_line 0 (refusal_code why) ∷ [])) is.0 in
      subst (λ f. StageIs (with_line line written) (stage.Faulty f) × (stage_left trace (stage.Faulty f) < 2)) (sym does.1) ((why, lines, is.1, is.2), omega arith)
  stage_goes written line (stage.Faulty Cut) (stage.Faulty g) not_ended is does =
      let why = is.0 in
      let lines : with_line line written ≡ refused_line 0 (refusal_code why) ∷ end_line 0 0 ∷ [] = ap (λ l. with_line l written) does.0 ∙ ap (λ w. w ++ (end_line 0 0 ∷ [])) is.1 in
      subst (λ f. StageIs (with_line line written) (stage.Faulty f) × (stage_left trace (stage.Faulty f) < 1)) (sym does.1) ((why, lines, is.2, is.3), omega arith)
  stage_goes written line (stage.Faulty Ended) q not_ended is does = absurd (let z : ◌≡◌ {A = ℕ} 0 1 = cc in omega arith)
  stage_goes written line (stage.Session s) (stage.Session t) not_ended is does =
      let stands = subst (λ b. Is trace bytes is.head is.script is.bad is.hierarchy is.opened b written s.progress s.port) not_ended is.is in
      let g = session_goes trace bytes is.head is.script is.bad is.hierarchy is.opened not_ended stands does in
      (record { head = is.head; script = is.script; bad = is.bad; hierarchy = is.hierarchy; began_on = is.began_on; opened = is.opened; is = g.is }, g.less)
  stage_goes written line (stage.Faulty (Refused why)) (stage.Session t) not_ended is does = absurd does
  stage_goes written line (stage.Faulty Cut) (stage.Session t) not_ended is does = absurd does
  stage_goes written line (stage.Session s) (stage.Faulty g) not_ended is does = absurd does

  -- the whole listing agrees with the trace
  stage_agrees : (written : List (List ℕ)) (p : Stage) → stage_ended p ≡ true → StageIs written p → Agrees trace written
  stage_agrees written (stage.Faulty (Refused why)) over is = absurd (let z : ◌≡◌ {A = ℕ} 0 1 = cc in omega arith)
  stage_agrees written (stage.Faulty Cut) over is = absurd (let z : ◌≡◌ {A = ℕ} 0 1 = cc in omega arith)
  stage_agrees written (stage.Faulty Ended) over is = ([], Some is.0, (0, start, is.2), is.1)
  stage_agrees written (stage.Session s) over is =
      let o = subst (λ b. Is trace bytes is.head is.script is.bad is.hierarchy is.opened b written s.progress s.port) over is.is in
      (_, o.cut, o.records, o.lists)

  -- and its last line counts what the port did
  stage_counts : (written : List (List ℕ)) (p : Stage) → stage_ended p ≡ true → StageIs written p → LastCounts began p written
  stage_counts written (stage.Faulty (Refused why)) over is = absurd (let z : ◌≡◌ {A = ℕ} 0 1 = cc in omega arith)
  stage_counts written (stage.Faulty Cut) over is = absurd (let z : ◌≡◌ {A = ℕ} 0 1 = cc in omega arith)
  stage_counts written (stage.Faulty Ended) over is = by_start began is.3
    where
      by_start : (b : Stage) → BeganFaulty b → LastCounts b (stage.Faulty Ended) written
      by_start (stage.Faulty f) faulty = tt
      by_start (stage.Session s) faulty = absurd faulty
  stage_counts written (stage.Session s) over is = by_start began is.began_on
    where
      o : Over trace bytes is.head is.script is.bad is.hierarchy is.opened written s.port
      o = subst (λ b. Is trace bytes is.head is.script is.bad is.hierarchy is.opened b written s.progress s.port) over is.is

      by_start : (b : Stage) → BeganOn b is.hierarchy → LastCounts b (stage.Session s) written
      by_start (stage.Faulty f) on = absurd on
      by_start (stage.Session first) on = subst (λ h. Counted h s written) (sym on) (record { log = o.log; came = o.came; body = o.body; lines_are = o.listing_is })

module _ (trace : List ℕ) (bytes : Bytes trace) where
  -- a player that was made for the trace stands at the start
  starts : (p : Player) → MadeFor trace p → StageIs trace bytes p.stage [] p.stage × (stage_left trace p.stage ≤ most_calls (length trace))
  starts p m = go m.first m.first_is m.makes
    where
      go : (first : Result FirstRecord Refusal) → FirstOf trace first → Makes first m.image (Ok p) → StageIs trace bytes p.stage [] p.stage × (stage_left trace p.stage ≤ most_calls (length trace))
      go (Err why) is makes = subst (λ f. StageIs trace bytes f [] f × (stage_left trace f ≤ most_calls (length trace))) (sym makes.1) ((refl, is, tt), omega arith)
      go (Ok first) is makes =
          let s = first.setup in
          let b = first.buffer.now in
          let new = makes.session_new in
          let few = few_lines s b makes.limits in
          let room = makes.room in
          let whole : length makes.bytes.now ≡ line_size * s.lines = ap length makes.bytes_are ∙ length-take-le (memory_size first) m.image.now (omega arith) in
          let opened = session_opened makes.limits whole new in
          let bound = session_bounded trace bytes is new opened in
          subst (λ f. StageIs trace bytes f [] f × (stage_left trace f ≤ most_calls (length trace))) (sym makes.stage_is) (
            record {
              head = s;
              script = setup_script s b;
              bad = setup_bad_lines s b;
              hierarchy = new.hierarchy;
              began_on = new.opened.0;
              opened = opened;
              is = subst (λ e. Is trace bytes s (setup_script s b) (setup_bad_lines s b) new.hierarchy opened e [] makes.session.progress makes.session.port) (sym (ap (λ x. x.ended) new.progress)) (session_starts trace bytes is new opened);
            },
            omega arith,
          )

  -- how far a play has come that began with a player
  pub record Going (first : Player) (written : List (List ℕ)) (p : Player) : Type 0 where
    pub calls : ℕ
    pub ran : Calls trace first calls written p
    pub is : StageIs trace bytes first.stage written p.stage
    pub few : calls + stage_left trace p.stage ≤ most_calls (length trace)

  -- at its beginning
  pub begins : (p : Player) → MadeFor trace p → Going p [] p
  begins p m = let s = starts p m in record { calls = 0; ran = none; is = s.0; few = omega (arith, s.1) }

  -- one call more
  pub goes_on : {first p : Player} {written : List (List ℕ)} (line : Option (List ℕ)) (q : Player) → player_ended p ≡ false → Going first written p → PlayerDoes trace p line q → Going first (with_line line written) q × (stage_left trace q.stage < stage_left trace p.stage)
  goes_on {first} {p} {written} line q not_ended g does =
      let s = stage_goes trace bytes first.stage written line p.stage q.stage not_ended g.is does.0 in
      let few = g.few in
      (record { calls = suc g.calls; ran = another line g.ran does; is = s.0; few = (let less = s.1 in omega arith) }, s.1)

  -- at its end
  pub ends : {first p : Player} {written : List (List ℕ)} → MadeFor trace first → player_ended p ≡ true → Going first written p → PlayedLines trace written
  ends {first} {p} {written} made over g =
      let few = g.few in
      record { start = first; made = made; calls = g.calls; last = p; ran = g.ran; ended = over; few = omega arith; counts = stage_counts trace bytes first.stage written p.stage over g.is; agree = stage_agrees trace bytes first.stage written p.stage over g.is }

-- how far a play has come, on a trace of bytes
pub record Run (trace : List ℕ) (first : Player) (written : List (List ℕ)) (p : Player) : Type 0 where
  pub bytes : Bytes trace
  pub going : Going trace bytes first written p

-- what a call with a buffer of the size that it needs did: its line stands at the front
pub proceeded : (trace : List ℕ) (p q : Player) (before after : List ℕ) (r : Result ℕ Refusal) → length before ≡ line_room → Proceeds trace p before r q after → (line : Option (List ℕ)) × PlayerDoes trace p line q × (take (result_unwrap_or r 0) after ≡ line_bytes line)
proceeded trace p q before after (Ok count) l d =
    let line = d.1.0 in
    let writes = d.1.2 in
    (line, d.1.1, ap (take count) writes.1 ∙ take_at (line_bytes line) (drop (length (line_bytes line)) before) count (sym writes.0))
proceeded trace p q before after (Err why) l d = absurd (let z = d.0 in omega arith)

-- the bytes of lines with one behind them, if there is one
pub lines_bytes : (line : Option (List ℕ)) (lines : List (List ℕ)) → concat (with_line line lines) ≡ concat lines ++ line_bytes line
lines_bytes None lines = sym (append-nil (concat lines))
lines_bytes (Some line) lines = concat-append lines (line ∷ []) ∙ ap (λ bs. concat lines ++ bs) (append-nil line)

-- what holds anyway holds where a call is done
pub on_ok : {X E : Type 0} (r : Result X E) (P : Type 0) → P → OnOk r P
on_ok (Ok x) P p = p
on_ok (Err e) P p = tt

-- of what the reader says of a first record, and an image that is large enough, a player is made
pub never_unmade : (trace : List ℕ) → Bytes trace → (first : Result FirstRecord Refusal) (image : MutBor (List ℕ)) (u : Unmade) → FirstOf trace first → image_room ≤ length image.now → Makes first image (Err u) → ⊥
never_unmade trace bytes (Err why) image u is room makes = let few = makes.0 in omega arith
never_unmade trace bytes (Ok first) image u is room makes =
    let few = makes.1 (first_given trace bytes _ _ is).2 in omega arith

-- what follows from what holds where a call is done
pub on_ok_from : {X E : Type 0} (r : Result X E) (P Q : Type 0) → OnOk r P → (P → Q) → OnOk r Q
on_ok_from (Ok x) P Q p f = f p
on_ok_from (Err e) P Q p f = tt
