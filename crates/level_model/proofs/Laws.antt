-- the laws of a level, from those of the memory below and of the rule
use Rattle.std.proofs.Common.{◌≡◌, ◌≢◌, ◌⊎◌, inl, inr, ℕ, ◌%◌, ◌<◌, ◌≤◌, Bool, true, false, cond, eqb, ◌||◌, List, [], ◌∷◌, length, find, is_some, Some, None, Option, Result, Ok, Err, sym, refl, ap, ◌∙◌, subst, arith, eq-eqb, eqb-true}
use Rattle.std.proofs.lemmas.Bool.{eqb-false}
use Rattle.std.specs.List.{slice_get}
use Rattle.list.specs.Keyed.{entry_of}
use Rattle.memory.specs.Gather.{facts}
use Rattle.memory.specs.Laws.{Laws}
use Rattle.memory.specs.Meaning.{Facts, Well, ReadMeans, WriteMeans, StepMeans}
use Rattle.memory.specs.declared.memory.Memory.{Ghosts}
use Rattle.memory.specs.declared.refusal.Refusal.{Refusal}
use Rattle.memory.specs.declared.refusal.Refusal.TheVariants.{NoLine, Busy}
use Rattle.memory.specs.declared.replies.Answer.{Answer}
use Rattle.memory.specs.declared.replies.Fault.{Fault}
use Rattle.memory.specs.declared.state.State as state
use Rattle.replacement.specs.Laws.{Once}
use Rattle.replacement.specs.declared.geometry.Geometry.{Geometry}
use Rattle.replacement.specs.declared.rule.Replacement as rule
use Rattle.level_model.proofs.Asks.{takes, busy_open}
use Rattle.level_model.proofs.Lines.{queue_kept, awaited_kept, sent_kept}
use Rattle.list.proofs.Entries.{none_some, some_is, found_is_entry, found_none}
use Rattle.level_model.proofs.Open.{AskMeans, accepted_means, refused_means, unchanged_same, Calm, calm_same, calm_further, finish_some, finish_none, falls_or_idle}
use Rattle.level_model.proofs.Receives.{leaves, arrives}
use Rattle.level_model.proofs.Rows.{held_is, choice_some, choice_none, sets_few, ways_some, set_small}
use Rattle.level_model.proofs.Sends.{Went, refused_below, writes, sends}
use Rattle.level_model.proofs.Targets.{length_bytes_after, length_open, open_some}
use Rattle.level_model.specs.Facts.{way_of, queued_bytes, way_bytes, base, targets_in, open_of, level_facts}
use Rattle.level_model.specs.Kept.{WayKept, QueuedKept, sent_ticket, LineKept, Kept}
use Rattle.level_model.specs.Moves.{RuleUsed, RuleFilledBy, RuleFilled, Shows, WritesBack, SendsBy, Asks, Steps}
use Rattle.level_model.specs.Registers.{register_line, queued_line, sent_in, is_waiting}
use Rattle.level_model.specs.Steps.{First, with_ready, arrival, received, may_go, choice, fetch_at, fetch_of, fetch}
use Rattle.level_model.specs.Tables.{register_of, queued_of, target_count}
use Rattle.level_model.specs.Ways.{row, way_at, is_for, is_reserved, holding}
use Rattle.level_model.specs.declared.registers.Ask.{Ask}
use Rattle.level_model.specs.declared.registers.Ask.TheVariants.{Read, Write}
use Rattle.level_model.specs.declared.registers.Progress.{Progress}
use Rattle.level_model.specs.declared.registers.Progress.TheVariants.{Waiting, Sent}
use Rattle.level_model.specs.declared.registers.QueuedLine.{QueuedLine}
use Rattle.level_model.specs.declared.registers.Ready.{Ready}
use Rattle.level_model.specs.declared.registers.Register.{Register}
use Rattle.level_model.specs.declared.tables.Arrival.{Arrival}
use Rattle.level_model.specs.declared.tables.Tables.{Tables}
use Rattle.level_model.specs.declared.ways.Way.{Way}
use Rattle.level_model.specs.declared.ways.Way.TheVariants.{Empty, Reserved, Filled}

-- every line has its bytes
base_whole : (f : Facts) (line : ℕ) (v : Way) (q : Option QueuedLine) (r : Option Register) → WayKept f line v q r → QueuedKept f line q → length (f.contents line) ≡ 16 → length (way_bytes v (queued_bytes q (f.contents line))) ≡ 16
base_whole f line (Filled held) q r s k w = s.0.2
base_whole f line Empty None r s k w = w
base_whole f line Empty (Some q) r s k w = k.2
base_whole f line (Reserved j) None r s k w = w
base_whole f line (Reserved j) (Some q) r s k w = k.2

pub level_well : (f : Facts) (g : Geometry) (t : Tables) → Well f → Kept f g t → Well (level_facts f g t)
level_well f g t w kept = record {
  few = w.few;
  whole = λ line inside.
      let known : LineKept f line (way_of g t line) (queued_of t line) (register_of t line) = kept.lines_kept line in
      length_bytes_after (f.bad line) (base f g t line) (targets_in (register_of t line))
      ∙ base_whole f line (way_of g t line) (queued_of t line) (register_of t line) known.way_kept known.queued_kept (w.whole line inside);
  paced = omega arith;
  owing = λ u h. let some = open_some (open_of f g t) u h in omega (arith, length_open f g t);
}

-- a rule that is told keeps its geometry
used_keeps : {Q : Type 0} (rk : rule.Ghosts Q) (set : ℕ) (way : Option ℕ) (p q : Q) → RuleUsed rk set way p q → rk.geometry q ≡ rk.geometry p
used_keeps rk set None p q h = ap rk.geometry h
used_keeps rk set (Some way) p q h = h.0

filled_by_keeps : {Q : Type 0} (rk : rule.Ghosts Q) (a : Arrival) (fault : Option Fault) (p q : Q) → RuleFilledBy rk a fault p q → rk.geometry q ≡ rk.geometry p
filled_by_keeps rk a None p q h = h.0
filled_by_keeps rk a (Some fault) p q h = ap rk.geometry h

filled_keeps : {Q : Type 0} (rk : rule.Ghosts Q) (a : Option Arrival) (p q : Q) → RuleFilled rk a p q → rk.geometry q ≡ rk.geometry p
filled_keeps rk None p q h = ap rk.geometry h
filled_keeps rk (Some a) p q h = filled_by_keeps rk a a.fault p q h

-- where nothing is open below, no register was sent
module _ (f : Facts) (g : Geometry) (t : Tables) (kept : Kept f g t) (idle : (u : ℕ) → f.due u ≡ None) where
  none_sent : (j ticket : ℕ) → sent_ticket (register_of t j) ≡ Some ticket → ⊥
  none_sent j ticket e = none_some _ (sym (idle ticket) ∙ (sent_kept f j _ _ _ (kept.lines_kept j) ticket e).1)

  waits_by : (j : ℕ) (r : Register) → register_of t j ≡ Some r → (p : Progress) → r.progress ≡ p → is_waiting p ≡ true
  waits_by j r e Waiting is = refl
  waits_by j r e (Sent ticket) is = absurd (none_sent j ticket (ap sent_ticket e ∙ ap sent_in is))

  -- so one waits, if something is open above
  waits_some : find (λ (r : Register). is_waiting r.progress) t.registers.items ≡ None → 1 ≤ target_count t.registers.items → ⊥
  waits_some none some = go t.registers.items refl
    where
      go : (rs : List Register) → t.registers.items ≡ rs → ⊥
      go [] e = let l : target_count t.registers.items ≡ 0 = ap target_count e in omega arith
      go (r ∷ rs) e =
          let found : register_of t r.line ≡ Some r = ap (entry_of register_line r.line) e ∙ (rw (eq-eqb r.line r.line refl) refl) in
          let not = found_none register_line (λ (x : Register). is_waiting x.progress) t.registers.items none r.line r found in
          let is = waits_by r.line r found r.progress refl in
          let z : ◌≡◌ {A = ℕ} 0 1 = cc in omega arith

  -- and no way is reserved
  reserved_not : (s w : ℕ) → s < length t.ways.sets → w < length (row t.ways s) → is_reserved (way_at t.ways s w) ≡ true → ⊥
  reserved_not s w there within e = go (way_at t.ways s w) refl e
    where
      go : (x : Way) → way_at t.ways s w ≡ x → is_reserved x ≡ true → ⊥
      go Empty at z = let y : ◌≡◌ {A = ℕ} 0 1 = cc in omega arith
      go (Filled held) at z = let y : ◌≡◌ {A = ℕ} 0 1 = cc in omega arith
      go (Reserved j) at z =
          let way : way_of g t j ≡ Reserved j = (held_is g t.ways kept.own_way s w there within Empty j (ap (is_for j) at ∙ eq-eqb j j refl)).1 ∙ at in
          let known : LineKept f j (way_of g t j) (queued_of t j) (register_of t j) = kept.lines_kept j in
          let some = some_is (sent_ticket (register_of t j)) (sym known.reserved ∙ ap is_reserved way) in
          none_sent j some.0 some.1

module _ {S Q : Type 0} (known : state.Ghosts S) (calls : Ghosts S) (laws : Laws (facts known) calls.reads calls.writes calls.steps) (rk : rule.Ghosts Q) (once : Once rk) where
  pub well_holds : (b : S) (t : Tables) (p : Q) → Kept (facts known b) (rk.geometry p) t → Well (level_facts (facts known b) (rk.geometry p) t)
  well_holds b t p kept = level_well (facts known b) (rk.geometry p) t (laws.well b) kept

  -- a request
  ask_means : (b : S) (t u : Tables) (p q : Q) (line : ℕ) (ask : Ask) (r : Result ℕ Refusal) → Kept (facts known b) (rk.geometry p) t → Asks rk (facts known b).lines t p line ask r u q → Kept (facts known b) (rk.geometry q) u × AskMeans (level_facts (facts known b) (rk.geometry p) t) line ask r (level_facts (facts known b) (rk.geometry q) u)
  ask_means b t u p q line ask (Ok ticket) kept (inside, asked, told) =
      let done = takes (facts known b) (rk.geometry p) t u line ask ticket kept inside asked in
      let same = used_keeps rk (line % (rk.geometry p).sets) (holding line (row t.ways (line % (rk.geometry p).sets))) p q told in
      subst (λ g. Kept (facts known b) g u × AskMeans (level_facts (facts known b) (rk.geometry p) t) line ask (Ok ticket) (level_facts (facts known b) g u)) (sym same)
      (done.0, accepted_means (level_facts (facts known b) (rk.geometry p) t) (level_facts (facts known b) (rk.geometry p) u) line ticket ask done.1)
  ask_means b t u p q line ask (Err NoLine) kept (beyond, same, rule_same) =
      subst (λ g. Kept (facts known b) g u × AskMeans (level_facts (facts known b) (rk.geometry p) t) line ask (Err NoLine) (level_facts (facts known b) g u)) (sym (ap rk.geometry rule_same))
      (subst (λ v. Kept (facts known b) (rk.geometry p) v × AskMeans (level_facts (facts known b) (rk.geometry p) t) line ask (Err NoLine) (level_facts (facts known b) (rk.geometry p) v)) (sym same)
      (kept, refused_means (level_facts (facts known b) (rk.geometry p) t) (level_facts (facts known b) (rk.geometry p) t) line ask NoLine (beyond, unchanged_same (level_facts (facts known b) (rk.geometry p) t))))
  ask_means b t u p q line ask (Err Busy) kept (inside, (busy, same), rule_same) =
      subst (λ g. Kept (facts known b) g u × AskMeans (level_facts (facts known b) (rk.geometry p) t) line ask (Err Busy) (level_facts (facts known b) g u)) (sym (ap rk.geometry rule_same))
      (subst (λ v. Kept (facts known b) (rk.geometry p) v × AskMeans (level_facts (facts known b) (rk.geometry p) t) line ask (Err Busy) (level_facts (facts known b) (rk.geometry p) v)) (sym same)
      (kept, refused_means (level_facts (facts known b) (rk.geometry p) t) (level_facts (facts known b) (rk.geometry p) t) line ask Busy (inside, busy_open (facts known b) (rk.geometry p) t line kept busy, unchanged_same (level_facts (facts known b) (rk.geometry p) t))))

  -- which leaves the memory below alone
  asked_means : (b c : S) (t u : Tables) (p q : Q) (line : ℕ) (ask : Ask) (r : Result ℕ Refusal) → Kept (facts known b) (rk.geometry p) t → (c ≡ b) × Asks rk (facts known b).lines t p line ask r u q → Kept (facts known c) (rk.geometry q) u × AskMeans (level_facts (facts known b) (rk.geometry p) t) line ask r (level_facts (facts known c) (rk.geometry q) u)
  asked_means b c t u p q line ask r kept (same, moved) =
      subst (λ d. Kept (facts known d) (rk.geometry q) u × AskMeans (level_facts (facts known b) (rk.geometry p) t) line ask r (level_facts (facts known d) (rk.geometry q) u)) (sym same) (ask_means b t u p q line ask r kept moved)

  pub read_means : (b c : S) (t u : Tables) (p q : Q) (line : ℕ) (r : Result ℕ Refusal) → Kept (facts known b) (rk.geometry p) t → (c ≡ b) × Asks rk (facts known b).lines t p line Read r u q → Kept (facts known c) (rk.geometry q) u × ReadMeans (level_facts (facts known b) (rk.geometry p) t) line r (level_facts (facts known c) (rk.geometry q) u)
  read_means b c t u p q line r kept moved = asked_means b c t u p q line Read r kept moved

  pub write_means : (b c : S) (t u : Tables) (p q : Q) (line mask : ℕ) (new : List ℕ) (r : Result ℕ Refusal) → Kept (facts known b) (rk.geometry p) t → (c ≡ b) × Asks rk (facts known b).lines t p line (Write mask new) r u q → Kept (facts known c) (rk.geometry q) u × WriteMeans (level_facts (facts known b) (rk.geometry p) t) line mask new r (level_facts (facts known c) (rk.geometry q) u)
  write_means b c t u p q line mask new r kept moved = asked_means b c t u p q line (Write mask new) r kept moved

  -- at most one request goes below
  module _ (d c : S) (v u : Tables) (q : Q) (kept : Kept (facts known d) (rk.geometry q) v) where
    abbrev WentOn : Type 0
    WentOn = Went (facts known d) v (facts known c) (rk.geometry q) u

    -- nothing may go, though nothing is open below and something waits
    abbrev Stuck : Type 0
    Stuck = ((w : ℕ) → (facts known d).due w ≡ None) → 1 ≤ target_count v.registers.items → ⊥

    write_goes : (xs : List QueuedLine) → v.queue.items ≡ xs → (xs ≡ [] → Stuck) → WritesBack calls (slice_get xs 0) d v c u → WentOn
    write_goes [] e stuck (same, tables_same) =
        subst (λ x. Went (facts known d) v (facts known x) (rk.geometry q) u) (sym same)
        (subst (λ x. Went (facts known d) v (facts known d) (rk.geometry q) x) (sym tables_same)
        record { kept = kept; calm = calm_same (level_facts (facts known d) (rk.geometry q) v); pushes = λ none some. absurd (stuck refl none some) })
    write_goes (x ∷ xs) e stuck (Ok ticket, moved, is) =
        subst (λ y. Went (facts known d) v (facts known c) (rk.geometry q) y) (sym is)
        (writes (facts known d) (facts known c) (laws.well d) (rk.geometry q) v kept x xs e ticket (laws.writing d c x.line 65535 x.bytes (Ok ticket) moved))
    write_goes (x ∷ xs) e stuck (Err refusal, moved, is) =
        let found : queued_of v x.line ≡ Some x = ap (entry_of queued_line x.line) e ∙ (rw (eq-eqb x.line x.line refl) refl) in
        subst (λ y. Went (facts known d) v (facts known c) (rk.geometry q) y) (sym is)
        (refused_below (facts known d) (facts known c) (rk.geometry q) v x.line refusal kept (queue_kept (facts known d) x.line _ _ _ (kept.lines_kept x.line) x found).0 (laws.writing d c x.line 65535 x.bytes (Err refusal) moved))

    -- the oldest register that waits
    module _ (r : Register) (first : find (λ (x : Register). is_waiting x.progress) v.registers.items ≡ Some r) where
      entry : (is_waiting r.progress ≡ true) × (register_of v r.line ≡ Some r)
      entry = found_is_entry register_line (λ (x : Register). is_waiting x.progress) v.registers.items r kept.registers_differ first

      waiting_is : (p : Progress) → is_waiting p ≡ true → p ≡ Waiting
      waiting_is Waiting e = refl
      waiting_is (Sent n) e = absurd (let z : ◌≡◌ {A = ℕ} 0 1 = cc in omega arith)

      set_inside : r.line % (rk.geometry q).sets < (rk.geometry q).sets
      set_inside = set_small (rk.geometry q) r.line

      set_there : r.line % (rk.geometry q).sets < length v.ways.sets
      set_there = omega (arith, set_inside, sets_few (rk.geometry q), kept.all_sets)

      row_whole : length (row v.ways (r.line % (rk.geometry q).sets)) ≡ 8
      row_whole = kept.all_ways (r.line % (rk.geometry q).sets) (omega (arith, set_inside, sets_few (rk.geometry q)))

      fetch_goes : (way : ℕ) → choice (rk.geometry q) (rk.order q) v (r.line % (rk.geometry q).sets) ≡ Some way → queued_of v r.line ≡ None → length v.queue.items ≢ 4 → SendsBy calls (fetch_at r.line (r.line % (rk.geometry q).sets) (Some way)) d v c u → WentOn
      fetch_goes way e free room (Ok ticket, moved, is) =
          let w = choice_some (rk.geometry q) (rk.order q) v (r.line % (rk.geometry q).sets) way (once q (r.line % (rk.geometry q).sets) set_inside) row_whole set_inside e in
          subst (λ y. Went (facts known d) v (facts known c) (rk.geometry q) y) (sym is)
          (sends (facts known d) (facts known c) (rk.geometry q) v kept r.line r entry.1 (waiting_is r.progress entry.0) free room way w.0 w.1 ticket (laws.reading d c r.line (Ok ticket) moved))
      fetch_goes way e free room (Err refusal, moved, is) =
          subst (λ y. Went (facts known d) v (facts known c) (rk.geometry q) y) (sym is)
          (refused_below (facts known d) (facts known c) (rk.geometry q) v r.line refusal kept (awaited_kept (facts known d) r.line _ _ _ (kept.lines_kept r.line) r entry.1).0 (laws.reading d c r.line (Err refusal) moved))

      no_way_left : choice (rk.geometry q) (rk.order q) v (r.line % (rk.geometry q).sets) ≡ None → Stuck
      no_way_left e idle some =
          let some_way = ways_some (rk.geometry q) in
          reserved_not (facts known d) (rk.geometry q) v kept idle (r.line % (rk.geometry q).sets) 0 set_there (omega (arith, row_whole))
          (choice_none (rk.geometry q) (rk.order q) v (r.line % (rk.geometry q).sets) (once q (r.line % (rk.geometry q).sets) set_inside) row_whole set_inside e 0 (omega arith))

      at_choice : queued_of v r.line ≡ None → length v.queue.items ≢ 4 → (o : Option ℕ) → choice (rk.geometry q) (rk.order q) v (r.line % (rk.geometry q).sets) ≡ o → SendsBy calls (fetch_at r.line (r.line % (rk.geometry q).sets) o) d v c u → WentOn
      at_choice free room (Some way) e moved = fetch_goes way e free room moved
      at_choice free room None e moved = write_goes v.queue.items refl (λ _. no_way_left e) moved

      none_there : (o : Option QueuedLine) → is_some o ≡ false → o ≡ None
      none_there None e = refl
      none_there (Some x) e = absurd (let z : ◌≡◌ {A = ℕ} 0 1 = cc in omega arith)

      at_gate : (full held : Bool) → eqb (length v.queue.items) 4 ≡ full → is_some (queued_of v r.line) ≡ held → SendsBy calls (fetch_of (rk.geometry q) (rk.order q) v (cond (full || held) None (Some r.line))) d v c u → WentOn
      at_gate true held e h moved = write_goes v.queue.items refl (λ empty. absurd (let l = eqb-true (length v.queue.items) 4 e in let z : length v.queue.items ≡ 0 = ap length empty in omega arith)) moved
      at_gate false true e h moved = write_goes v.queue.items refl (λ empty. absurd (let z : is_some (queued_of v r.line) ≡ false = ap (λ xs. is_some (entry_of queued_line r.line xs)) empty in let y : ◌≡◌ {A = ℕ} 0 1 = cc in omega arith)) moved
      at_gate false false e h moved = at_choice (none_there (queued_of v r.line) h) (eqb-false (length v.queue.items) 4 e) (choice (rk.geometry q) (rk.order q) v (r.line % (rk.geometry q).sets)) refl moved

    at_first : (o : Option Register) → find (λ (x : Register). is_waiting x.progress) v.registers.items ≡ o → SendsBy calls (fetch_of (rk.geometry q) (rk.order q) v (may_go v.queue.items o)) d v c u → WentOn
    at_first None e moved = write_goes v.queue.items refl (λ empty idle some. waits_some (facts known d) (rk.geometry q) v kept idle e some) moved
    at_first (Some r) e moved = at_gate r e (eqb (length v.queue.items) 4) (is_some (queued_of v r.line)) refl refl moved

    goes : SendsBy calls (fetch (rk.geometry q) (rk.order q) v) d v c u → WentOn
    goes moved = at_first (find (λ (x : Register). is_waiting x.progress) v.registers.items) refl moved

  -- the parts of a step behind the first
  abbrev Further : Facts → Geometry → Tables → Facts → Tables → Type 0
  Further f g t h u = Kept h g u × Calm (level_facts f g t) (level_facts h g u) × (1 ≤ target_count t.registers.items → (level_facts h g u).owed < (level_facts f g t).owed)

  goes_on : (b d c : S) (t u : Tables) (p q : Q) (lent bytes : List ℕ) (got : Option Answer) → Kept (facts known b) (rk.geometry p) t → calls.steps b lent got d bytes → rk.geometry q ≡ rk.geometry p
      → SendsBy calls (fetch (rk.geometry q) (rk.order q) (received (arrival (rk.geometry p) t got) bytes t)) d (received (arrival (rk.geometry p) t got) bytes t) c u
      → Further (facts known b) (rk.geometry p) t (facts known c) u
  goes_on b d c t u p q lent bytes got kept stepped same moved =
      let m = laws.stepping b d lent bytes got stepped in
      let a = arrives (facts known b) (facts known d) (laws.well b) (rk.geometry p) t kept bytes lent got m in
      let v : Tables = received (arrival (rk.geometry p) t got) bytes t in
      let s : Went (facts known d) v (facts known c) (rk.geometry p) u =
      subst (λ g. Went (facts known d) v (facts known c) g u) same (goes d c v u q (subst (λ g. Kept (facts known d) g v) (sym same) a.kept) moved) in
      let less : ((facts known d).owed < (facts known b).owed) ⊎ ((got ≡ None) × ((w : ℕ) → (facts known d).due w ≡ None)) → 1 ≤ target_count t.registers.items → (level_facts (facts known c) (rk.geometry p) u).owed < (level_facts (facts known b) (rk.geometry p) t).owed = (λ e some. elim e [
        | inl h ↦ let x = a.falls h in let y = s.calm.not_raised in omega arith
        | inr h ↦
            let untouched : v ≡ t = ap (λ x. received (arrival (rk.geometry p) t x) bytes t) h.0 in
            let x = a.calm.not_raised in
            let y = s.pushes h.1 (subst (λ (w : Tables). 1 ≤ target_count w.registers.items) (sym untouched) some) in
            omega arith
      ]) in
      (s.kept, calm_further a.calm s.calm, less (falls_or_idle (facts known b) (facts known d) lent bytes got m))

  -- a step
  pub step_means : (b c : S) (t u : Tables) (p q : Q) (before after : List ℕ) (r : Option Answer) → Kept (facts known b) (rk.geometry p) t → Steps rk calls b t p before r c u q after → Kept (facts known c) (rk.geometry q) u × StepMeans (level_facts (facts known b) (rk.geometry p) t) before r (level_facts (facts known c) (rk.geometry q) u) after
  step_means b c t u p q before after r kept (ready, v, d, got, bytes, taken, stepped, told, moved, shown) =
      let same = filled_keeps rk (arrival (rk.geometry p) v got) p q told in
      subst (λ g. Kept (facts known c) g u × StepMeans (level_facts (facts known b) (rk.geometry p) t) before r (level_facts (facts known c) g u) after) (sym same) (go same ready taken.0 shown)
    where
      whole : rk.geometry q ≡ rk.geometry p → Kept (facts known b) (rk.geometry p) v → Further (facts known b) (rk.geometry p) v (facts known c) u
      whole same kept_v = goes_on b d c v u p q _ bytes got kept_v stepped same moved

      go : rk.geometry q ≡ rk.geometry p → (x : Option Ready) → First t.ready.items x v.ready.items → Shows x before r after → Kept (facts known c) (rk.geometry p) u × StepMeans (level_facts (facts known b) (rk.geometry p) t) before r (level_facts (facts known c) (rk.geometry p) u) after
      go same (Some x) first shown =
          let left = leaves (facts known b) (rk.geometry p) t x v.ready.items first kept in
          let on = whole same (subst (λ y. Kept (facts known b) (rk.geometry p) y) (sym taken.1) left.0) in
          let on_from : Further (facts known b) (rk.geometry p) (with_ready v.ready.items t) (facts known c) u = subst (λ y. Further (facts known b) (rk.geometry p) y (facts known c) u) taken.1 on in
          (on.0, finish_some (level_facts (facts known b) (rk.geometry p) t) (level_facts (facts known b) (rk.geometry p) (with_ready v.ready.items t)) (level_facts (facts known c) (rk.geometry p) u) x before after r left.1 on_from.1 shown)
      go same None first shown =
          let untouched : v ≡ t = taken.1 ∙ ap (λ xs. with_ready xs t) (first.1 ∙ sym first.0) in
          let on : Further (facts known b) (rk.geometry p) t (facts known c) u = subst (λ y. Further (facts known b) (rk.geometry p) y (facts known c) u) untouched (whole same (subst (λ y. Kept (facts known b) (rk.geometry p) y) (sym untouched) kept)) in
          let none : length t.ready.items ≡ 0 = ap length first.0 in (
            on.0,
            finish_none (level_facts (facts known b) (rk.geometry p) t) (level_facts (facts known c) (rk.geometry p) u) before after r on.1 (λ w o. on.2
                (let some = open_some (open_of (facts known b) (rk.geometry p) t) w o in omega (arith, length_open (facts known b) (rk.geometry p) t))) shown,
          )
