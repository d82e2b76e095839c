-- what is asked of the memory below
use Rattle.std.proofs.Common.{◌≡◌, ◌≢◌, ◌⊎◌, inl, inr, ℕ, zero, suc, ◌+◌, ◌*◌, ◌%◌, ◌<◌, ◌≤◌, Bool, true, false, cond, List, [], ◌∷◌, ◌++◌, length, Some, None, Option, sym, refl, ap, ◌∙◌, subst, arith, eq-eqb, eqb-true, ne_eqb}
use Rattle.std.proofs.lemmas.List.{length_push}
use Rattle.std.specs.Option.{option_map}
use Rattle.line.specs.Laid.{laid}
use Rattle.list.specs.Keyed.{entry_of, Distinct}
use Rattle.list.proofs.Distinct.{without_other, gone, distinct_without, shorter, push_found, push_other, distinct_push}
use Rattle.memory.specs.Meaning.{Facts, Well, Refused, ReadAccepted, WriteAccepted}
use Rattle.memory.specs.Replies.{written_on}
use Rattle.memory.specs.declared.refusal.Refusal.{Refusal}
use Rattle.memory.specs.declared.refusal.Refusal.TheVariants.{NoLine, Busy}
use Rattle.replacement.specs.declared.geometry.Geometry.{Geometry}
use Rattle.level_model.proofs.Asks.{each_line}
use Rattle.level_model.proofs.Lines.{good_same, line_same, line_found, filled_kept, queue_kept, awaited_kept, register_not_filled, queued_not_filled, sent_kept, not_sent_under, no_way}
use Rattle.list.proofs.Entries.{none_some, Around, around, altered_other, altered_found, distinct_altered, total_altered}
use Rattle.level_model.proofs.Pushed.{pushed_room}
use Rattle.level_model.proofs.Open.{Calm, not_open_idle}
use Rattle.level_model.proofs.Receives.{quiet}
use Rattle.level_model.proofs.Rows.{put_beyond, ways_few, sets_stay, row_length, held_is, put_other, put_own, put_new, put_gone, sets_few, set_small}
use Rattle.level_model.proofs.Targets.{full_laid, dues_of_append, dues_of_same}
use Rattle.level_model.specs.Facts.{way_for, way_of, queued_bytes, way_bytes, base, targets_in, dues_of, open_of, due_in, waiting_count, level_facts}
use Rattle.level_model.specs.Kept.{GoodLine, ConditionKept, WayKept, QueuedKept, ProgressKept, RegisterKept, sent_ticket, LineKept, Kept}
use Rattle.level_model.specs.Registers.{ticket_of, register_line, queued_line, bytes_after, sent_in, is_waiting}
use Rattle.level_model.specs.Steps.{evicted_line, evicted, reserved, dequeued}
use Rattle.level_model.specs.Tables.{register_of, queued_of, target_count}
use Rattle.level_model.specs.Ways.{row, way_at, is_for, is_reserved}
use Rattle.level_model.specs.declared.registers.Progress.{Progress}
use Rattle.level_model.specs.declared.registers.Progress.TheVariants.{Waiting, Sent}
use Rattle.level_model.specs.declared.registers.QueuedLine.{QueuedLine}
use Rattle.level_model.specs.declared.registers.Register.{Register}
use Rattle.level_model.specs.declared.tables.Fetch.{Fetch}
use Rattle.level_model.specs.declared.tables.Tables.{Tables}
use Rattle.level_model.specs.declared.ways.CachedLine.{CachedLine}
use Rattle.level_model.specs.declared.ways.Condition.{Condition}
use Rattle.level_model.specs.declared.ways.Condition.TheVariants.{Clean, Dirty}
use Rattle.level_model.specs.declared.ways.Way.{Way}
use Rattle.level_model.specs.declared.ways.Way.TheVariants.{Empty, Reserved, Filled}

-- at most one request was made below: nothing is seen, and while nothing is open below and something waits, what is owed falls
pub record Went (f : Facts) (t : Tables) (h : Facts) (g : Geometry) (u : Tables) : Type 0 where
  pub kept : Kept h g u
  pub calm : Calm (level_facts f g t) (level_facts h g u)
  pub pushes : ((v : ℕ) → f.due v ≡ None) → 1 ≤ target_count t.registers.items → (level_facts h g u).owed < (level_facts f g t).owed

-- a request that the memory below refuses changes nothing
pub refused_below : (f h : Facts) (g : Geometry) (t : Tables) (line : ℕ) (r : Refusal) → Kept f g t → line < f.lines → Refused f line r h → Went f t h g t
refused_below f h g t line NoLine kept inside (beyond, e) = absurd (omega arith)
refused_below f h g t line Busy kept inside (i, o, e) =
    let q = quiet f h g t kept e.fixed e.contents_stay (let z = e.owed_stays in omega arith) (λ k ticket z. e.due_stays ticket) in
    record { kept = q.kept; calm = q.calm; pushes = λ none some. absurd (not_open_idle f none o.0 o.1) }

times_more : (p a b : ℕ) → a ≤ b → p * a ≤ p * b
times_more zero a b h = omega arith
times_more (suc p) a b h = let rest = times_more p a b h in omega arith

-- the oldest queued line is written below
module _ (f h : Facts) (w : Well f) (g : Geometry) (t : Tables) (kept : Kept f g t) (q : QueuedLine) (rest : List QueuedLine) (queue : t.queue.items ≡ q ∷ rest) (ticket : ℕ) (accepted : WriteAccepted f q.line 65535 q.bytes ticket h) where
  abbrev t_written : Tables
  t_written = dequeued q.line t

  queued : queued_of t q.line ≡ Some q
  queued = ap (entry_of queued_line q.line) queue ∙ (rw (eq-eqb q.line q.line refl) refl)

  good : GoodLine f q.line q.bytes
  good = queue_kept f q.line _ _ _ (kept.lines_kept q.line) q queued

  left_queue : queued_of t_written q.line ≡ None
  left_queue = gone queued_line t.queue.items q.line kept.queue_differs

  queue_stays : (j : ℕ) → j ≢ q.line → queued_of t_written j ≡ queued_of t j
  queue_stays j n = without_other queued_line t.queue.items j q.line n

  below_now : h.contents q.line ≡ q.bytes
  below_now =
      accepted.laid_on q.line
      ∙ (rw (eq-eqb q.line q.line refl) refl)
      ∙ ap (λ x. written_on x (f.contents q.line) (laid (f.contents q.line) 65535 q.bytes)) good.1
      ∙ full_laid (f.contents q.line) q.bytes (w.whole q.line good.0) good.2

  below_stays : (j : ℕ) → j ≢ q.line → h.contents j ≡ f.contents j
  below_stays j n = accepted.laid_on j ∙ (rw (ne_eqb j q.line n) refl)

  not_held : (v : Way) → way_of g t q.line ≡ v → (had has : List ℕ) → had ≡ has → way_bytes v had ≡ way_bytes v has
  not_held Empty e had has same = same
  not_held (Reserved j) e had has same = same
  not_held (Filled held) e had has same = absurd (queued_not_filled f q.line _ _ _ (kept.lines_kept q.line) q queued held e)

  base_written : (j : ℕ) → base h g t_written j ≡ base f g t j
  base_written =
      each_line (λ j. base h g t_written j ≡ base f g t j) q.line
      (not_held (way_of g t q.line) refl (queued_bytes (queued_of t_written q.line) (h.contents q.line)) (queued_bytes (queued_of t q.line) (f.contents q.line))
      (ap (λ x. queued_bytes x (h.contents q.line)) left_queue ∙ below_now ∙ sym (ap (λ x. queued_bytes x (f.contents q.line)) queued)))
      (λ j n. ap (λ x. way_bytes (way_of g t j) (queued_bytes x (h.contents j))) (queue_stays j n) ∙ ap (λ x. way_bytes (way_of g t j) (queued_bytes (queued_of t j) x)) (below_stays j n))

  still_due : (j other : ℕ) → sent_ticket (register_of t j) ≡ Some other → h.due other ≡ f.due other
  still_due j other e = accepted.opens.others other (not_sent_under f j _ _ _ (kept.lines_kept j) ticket other accepted.opens.fresh e)

  way_written : (v : Way) → way_of g t q.line ≡ v → (p : Option QueuedLine) → WayKept h q.line v p (register_of t q.line)
  way_written Empty e p = tt
  way_written (Reserved j) e p = tt
  way_written (Filled held) e p = absurd (queued_not_filled f q.line _ _ _ (kept.lines_kept q.line) q queued held e)

  progress_written : (p : Progress) → sent_in p ≡ None → (x : Option QueuedLine) → ProgressKept h q.line p x
  progress_written Waiting e x = tt
  progress_written (Sent n) e x = absurd (none_some n (sym e))

  register_waits : (x : Option ℕ) → sent_ticket (register_of t q.line) ≡ x → x ≡ None
  register_waits None e = refl
  register_waits (Some n) e = absurd (none_some q (sym (sent_kept f q.line _ _ _ (kept.lines_kept q.line) n e).0 ∙ queued))

  register_written : (x : Option Register) → register_of t q.line ≡ x → (p : Option QueuedLine) → RegisterKept h q.line x p
  register_written None e p = tt
  register_written (Some r) e p =
      let s = awaited_kept f q.line _ _ _ (kept.lines_kept q.line) r e in
      (rw accepted.fixed.lines_stay s.0, s.1, progress_written r.progress (sym (ap sent_ticket e) ∙ register_waits (sent_ticket (register_of t q.line)) refl) p)

  line_written : LineKept h q.line (way_of g t q.line) (queued_of t_written q.line) (register_of t q.line)
  line_written = record {
    way_kept = way_written (way_of g t q.line) refl (queued_of t_written q.line);
    queued_kept = subst (λ x. QueuedKept h q.line x) (sym left_queue) tt;
    register_kept = register_written (register_of t q.line) refl (queued_of t_written q.line);
    reserved = (kept.lines_kept q.line).reserved;
  }

  line_beside : (j : ℕ) → j ≢ q.line → LineKept h j (way_of g t j) (queued_of t_written j) (register_of t j)
  line_beside j n =
      line_found h j (way_of g t j) (way_of g t j) (queued_of t j) (queued_of t_written j) (register_of t j) (register_of t j) refl (queue_stays j n) refl
      (line_same f h j accepted.fixed.lines_stay (accepted.fixed.bad_stay j) (below_stays j n) (way_of g t j) (queued_of t j) (register_of t j) (still_due j) (kept.lines_kept j))

  pub writes : Went f t h g t_written
  writes =
      let same : open_of h g t_written ≡ open_of f g t = ap (λ xs. t.ready.items ++ xs) (dues_of_same f.bad h.bad (base f g t) (base h g t_written) base_written accepted.fixed.bad_stay t.registers.items) in
      let fewer = shorter queued_line t.queue.items q.line q queued in
      let p : (h.pace + h.pace + 2) * waiting_count t.registers.items ≡ (f.pace + f.pace + 2) * waiting_count t.registers.items = ap (λ n. (n + n + 2) * waiting_count t.registers.items) accepted.fixed.pace_stays in
      let same_weight : (h.pace + 1) * length t_written.queue.items ≡ (f.pace + 1) * length t_written.queue.items = ap (λ n. (n + 1) * length t_written.queue.items) accepted.fixed.pace_stays in
      let m : (f.pace + 1) * length t.queue.items ≡ (f.pace + 1) * suc (length t_written.queue.items) = ap (λ n. (f.pace + 1) * n) (sym fewer) in
      let more = accepted.opens.raised in
      let less : (level_facts h g t_written).owed < (level_facts f g t).owed = omega arith in
      record {
        kept = record {
          lines_kept = each_line (λ j. LineKept h j (way_of g t j) (queued_of t_written j) (register_of t j)) q.line line_written line_beside;
          own_way = kept.own_way;
          registers_differ = kept.registers_differ;
          queue_differs = distinct_without queued_line t.queue.items q.line kept.queue_differs;
          sent_differ = kept.sent_differ;
          tickets_differ = subst (λ xs. Distinct ticket_of xs) (sym same) kept.tickets_differ;
          few = kept.few;
          all_sets = kept.all_sets;
          all_ways = kept.all_ways;
          beyond = kept.beyond;
        };
        calm = record {
          fixed = record { lines_stay = accepted.fixed.lines_stay; bad_stay = accepted.fixed.bad_stay; pace_stays = ap (λ n. n + n + 3) accepted.fixed.pace_stays };
          contents_stay = λ j. ap (λ x. bytes_after x (base h g t_written j) (targets_in (register_of t j))) (accepted.fixed.bad_stay j) ∙ ap (λ x. bytes_after (f.bad j) x (targets_in (register_of t j))) (base_written j);
          due_stays = λ u. ap (λ xs. due_in xs u) same;
          not_raised = omega arith;
        };
        pushes = λ none some. less;
      }

-- the line of a waiting register is read below, and a way is reserved for it
module _ (f h : Facts) (g : Geometry) (t : Tables) (kept : Kept f g t) (k : ℕ) (r : Register) (found : register_of t k ≡ Some r) (waits : r.progress ≡ Waiting) (free : queued_of t k ≡ None) (room : length t.queue.items ≢ 4) (way : ℕ) (below : way < g.ways) (unreserved : is_reserved (way_at t.ways (k % g.sets) way) ≡ false) (ticket : ℕ) (accepted : ReadAccepted f k ticket h) where
  abbrev fetched : Fetch
  fetched = record { line = k; set = k % g.sets; way = way }

  abbrev t_sent : Tables
  t_sent = reserved fetched ticket t

  abbrev r_sent : Register
  r_sent = record r { progress = Sent ticket }

  set_there : k % g.sets < length t.ways.sets
  set_there = omega (arith, set_small g k, sets_few g, kept.all_sets)

  within : way < length (row t.ways (k % g.sets))
  within = omega (arith, below, ways_few g, kept.all_ways (k % g.sets) (omega (arith, set_small g k, sets_few g)))

  no_ticket : sent_ticket (register_of t k) ≡ None
  no_ticket = ap sent_ticket found ∙ ap sent_in waits

  had_no_way : way_of g t k ≡ Empty
  had_no_way = no_way f k _ _ _ (kept.lines_kept k) (register_not_filled f k _ _ _ (kept.lines_kept k) r found) no_ticket

  fits : (j : ℕ) → is_for j (Reserved k) ≡ true → (j % g.sets ≡ k % g.sets) × ((is_for j (way_at t.ways (k % g.sets) way) ≡ true) ⊎ (way_for j (row t.ways (k % g.sets)) ≡ Empty))
  fits j e =
      let same : j ≡ k = sym (eqb-true k j e) in
      (ap (λ n. n % g.sets) same, inr (ap (λ n. way_for n (row t.ways (k % g.sets))) same ∙ had_no_way))

  way_k : way_of g t_sent k ≡ Reserved k
  way_k = put_new g t.ways kept.own_way (k % g.sets) way set_there within (Reserved k) fits k (eq-eqb k k refl)

  way_others : (j : ℕ) → j ≢ k → is_for j (way_at t.ways (k % g.sets) way) ≡ false → way_of g t_sent j ≡ way_of g t j
  way_others j n e = put_other g t.ways kept.own_way (k % g.sets) way set_there within (Reserved k) j e (ne_eqb k j (λ z. n (sym z)))

  way_victim : (j : ℕ) → j ≢ k → is_for j (way_at t.ways (k % g.sets) way) ≡ true → way_of g t_sent j ≡ Empty
  way_victim j n e = put_gone g t.ways kept.own_way (k % g.sets) way set_there within (Reserved k) fits j e (ne_eqb k j (λ z. n (sym z)))

  register_k : register_of t_sent k ≡ Some r_sent
  register_k = altered_found register_line k (λ x. record x { progress = Sent ticket }) (λ x. refl) t.registers.items ∙ ap (option_map (λ (x : Register). record x { progress = Sent ticket })) found

  register_others : (j : ℕ) → j ≢ k → register_of t_sent j ≡ register_of t j
  register_others j n = altered_other register_line k (λ x. record x { progress = Sent ticket }) (λ x. refl) j t.registers.items n

  due_others : (j other : ℕ) → sent_ticket (register_of t j) ≡ Some other → h.due other ≡ f.due other
  due_others j other e = accepted.opens.others other (not_sent_under f j _ _ _ (kept.lines_kept j) ticket other accepted.opens.fresh e)

  line_as_before : (j : ℕ) → LineKept h j (way_of g t j) (queued_of t j) (register_of t j)
  line_as_before j = line_same f h j accepted.fixed.lines_stay (accepted.fixed.bad_stay j) (accepted.contents_stay j) (way_of g t j) (queued_of t j) (register_of t j) (due_others j) (kept.lines_kept j)

  around_it : Around register_line k t.registers.items r
  around_it = around register_line k t.registers.items r found

  same_dues : dues_of f.bad (base f g t) t_sent.registers.items ≡ dues_of f.bad (base f g t) t.registers.items
  same_dues =
      ap (dues_of f.bad (base f g t)) (around_it.altered_so (λ x. record x { progress = Sent ticket }))
      ∙ dues_of_append f.bad (base f g t) around_it.before (r_sent ∷ around_it.after)
      ∙ sym (dues_of_append f.bad (base f g t) around_it.before (r ∷ around_it.after))
      ∙ ap (dues_of f.bad (base f g t)) (sym around_it.whole)

  as_many_targets : target_count t_sent.registers.items ≡ target_count t.registers.items
  as_many_targets =
      let e = total_altered register_line (λ (x : Register). length x.targets.items) k (λ x. record x { progress = Sent ticket }) t.registers.items r found in
      omega arith

  one_waits_less : waiting_count t_sent.registers.items + 1 ≡ waiting_count t.registers.items
  one_waits_less =
      let e = total_altered register_line (λ (x : Register). cond (is_waiting x.progress) 1 0) k (λ x. record x { progress = Sent ticket }) t.registers.items r found in
      let z : ◌≡◌ {A = ℕ} (cond (is_waiting r.progress) 1 0) 1 = ap (λ p. cond (is_waiting p) 1 0) waits in
      omega arith

  -- who is sent now: this line under the new ticket, others as before
  sent_now : (j other : ℕ) → sent_ticket (register_of t_sent j) ≡ Some other → ((j ≡ k) × (other ≡ ticket)) ⊎ ((sent_ticket (register_of t j) ≡ Some other) × (other ≢ ticket))
  sent_now j other =
      each_line (λ j. sent_ticket (register_of t_sent j) ≡ Some other → ((j ≡ k) × (other ≡ ticket)) ⊎ ((sent_ticket (register_of t j) ≡ Some other) × (other ≢ ticket))) k
      (λ e. let z : Some ticket ≡ Some other = sym (ap sent_ticket register_k) ∙ e in inl (refl, (let y : other ≡ ticket = cc in y)))
      (λ j n e.
      let was : sent_ticket (register_of t j) ≡ Some other = ap sent_ticket (sym (register_others j n)) ∙ e in
      inr (was, not_sent_under f j _ _ _ (kept.lines_kept j) ticket other accepted.opens.fresh was))
      j

  sent_apart : (line beside other : ℕ) → sent_ticket (register_of t_sent line) ≡ Some other → sent_ticket (register_of t_sent beside) ≡ Some other → line ≡ beside
  sent_apart line beside other a b = go (sent_now line other a) (sent_now beside other b)
    where
      go : ((line ≡ k) × (other ≡ ticket)) ⊎ ((sent_ticket (register_of t line) ≡ Some other) × (other ≢ ticket)) → ((beside ≡ k) × (other ≡ ticket)) ⊎ ((sent_ticket (register_of t beside) ≡ Some other) × (other ≢ ticket)) → line ≡ beside
      go (inl x) (inl y) = x.0 ∙ sym y.0
      go (inl x) (inr y) = absurd (y.1 x.1)
      go (inr x) (inl y) = absurd (x.1 y.1)
      go (inr x) (inr y) = kept.sent_differ line beside other x.0 y.0

  -- the victim, if there is one, has its bytes still
  module _ (base_others : (j : ℕ) → j ≢ k → base h g t_sent j ≡ base f g t j) (lines_others : (j : ℕ) → j ≢ k → LineKept h j (way_of g t_sent j) (queued_of t_sent j) (register_of t j)) (free_still : queued_of t_sent k ≡ None) (differ : Distinct queued_line t_sent.queue.items) (one_more : length t_sent.queue.items ≤ length t.queue.items + 1) where
    base_sent : (j : ℕ) → base h g t_sent j ≡ base f g t j
    base_sent =
        each_line (λ j. base h g t_sent j ≡ base f g t j) k
        (ap (λ x. way_bytes x (queued_bytes (queued_of t_sent k) (h.contents k))) way_k
        ∙ ap (λ x. queued_bytes x (h.contents k)) free_still
        ∙ accepted.contents_stay k
        ∙ sym (ap (λ x. way_bytes x (queued_bytes (queued_of t k) (f.contents k))) had_no_way ∙ ap (λ x. queued_bytes x (f.contents k)) free))
        base_others

    targets_same : (j : ℕ) → targets_in (register_of t_sent j) ≡ targets_in (register_of t j)
    targets_same = each_line (λ j. targets_in (register_of t_sent j) ≡ targets_in (register_of t j)) k (ap targets_in register_k ∙ sym (ap targets_in found)) (λ j n. ap targets_in (register_others j n))

    line_sent_k : LineKept h k (Reserved k) (queued_of t_sent k) (Some r_sent)
    line_sent_k =
        let s = awaited_kept f k _ _ _ (kept.lines_kept k) r found in
        record {
          way_kept = tt;
          queued_kept = subst (λ x. QueuedKept h k x) (sym free_still) tt;
          register_kept = (rw accepted.fixed.lines_stay s.0, s.1, (free_still, accepted.opens.opened ∙ (rw (accepted.fixed.bad_stay k, accepted.contents_stay k) refl)));
          reserved = refl;
        }

    pub sends_by : Went f t h g t_sent
    sends_by =
        let same : open_of h g t_sent ≡ open_of f g t = ap (λ xs. t.ready.items ++ xs) (dues_of_same f.bad h.bad (base f g t) (base h g t_sent) base_sent accepted.fixed.bad_stay t_sent.registers.items ∙ same_dues) in
        let a = as_many_targets in
        let b = one_waits_less in
        let p : (h.pace + h.pace + 2) * waiting_count t_sent.registers.items ≡ (f.pace + f.pace + 2) * waiting_count t_sent.registers.items = ap (λ n. (n + n + 2) * waiting_count t_sent.registers.items) accepted.fixed.pace_stays in
        let m : (f.pace + f.pace + 2) * waiting_count t.registers.items ≡ (f.pace + f.pace + 2) * (waiting_count t_sent.registers.items + 1) = ap (λ n. (f.pace + f.pace + 2) * n) (sym b) in
        let q : (h.pace + 1) * length t_sent.queue.items ≡ (f.pace + 1) * length t_sent.queue.items = ap (λ n. (n + 1) * length t_sent.queue.items) accepted.fixed.pace_stays in
        let l : (f.pace + 1) * length t_sent.queue.items ≤ (f.pace + 1) * (length t.queue.items + 1) = times_more (f.pace + 1) (length t_sent.queue.items) (length t.queue.items + 1) one_more in
        let more = accepted.opens.raised in
        let less : (level_facts h g t_sent).owed < (level_facts f g t).owed = omega arith in
        record {
          kept = record {
            lines_kept = each_line (λ j. LineKept h j (way_of g t_sent j) (queued_of t_sent j) (register_of t_sent j)) k
                (line_found h k (Reserved k) (way_of g t_sent k) (queued_of t_sent k) (queued_of t_sent k) (Some r_sent) (register_of t_sent k) way_k refl register_k line_sent_k)
                (λ j n. line_found h j (way_of g t_sent j) (way_of g t_sent j) (queued_of t_sent j) (queued_of t_sent j) (register_of t j) (register_of t_sent j) refl refl (register_others j n) (lines_others j n));
            own_way = put_own g t.ways kept.own_way (k % g.sets) way set_there within (Reserved k) fits;
            registers_differ = distinct_altered register_line k (λ x. record x { progress = Sent ticket }) (λ x. refl) t.registers.items kept.registers_differ;
            queue_differs = differ;
            sent_differ = sent_apart;
            tickets_differ = subst (λ xs. Distinct ticket_of xs) (sym same) kept.tickets_differ;
            few = let few = kept.few in omega arith;
            all_sets = sets_stay t.ways (k % g.sets) way (Reserved k) ∙ kept.all_sets;
            beyond = put_beyond g t.ways (k % g.sets) way (Reserved k) set_there below kept.beyond;
            all_ways = λ s below. row_length t.ways (k % g.sets) way s (Reserved k) set_there ∙ kept.all_ways s below;
          };
          calm = record {
            fixed = record { lines_stay = accepted.fixed.lines_stay; bad_stay = accepted.fixed.bad_stay; pace_stays = ap (λ n. n + n + 3) accepted.fixed.pace_stays };
            contents_stay = λ j.
                ap (λ x. bytes_after x (base h g t_sent j) (targets_in (register_of t_sent j))) (accepted.fixed.bad_stay j)
                ∙ ap (λ x. bytes_after (f.bad j) x (targets_in (register_of t_sent j))) (base_sent j)
                ∙ ap (λ x. bytes_after (f.bad j) (base f g t j) x) (targets_same j);
            due_stays = λ u. ap (λ xs. due_in xs u) same;
            not_raised = omega arith;
          };
          pushes = λ none some. less;
        }

  -- the way was empty
  sends_empty : way_at t.ways (k % g.sets) way ≡ Empty → Went f t h g t_sent
  sends_empty at =
      sends_by
      (λ j n. ap (λ x. way_bytes x (queued_bytes (queued_of t_sent j) (h.contents j))) (way_others j n (ap (is_for j) at)) ∙ ap (λ x. way_bytes (way_of g t j) (queued_bytes x (h.contents j))) (queue_same j) ∙ ap (λ x. way_bytes (way_of g t j) (queued_bytes (queued_of t j) x)) (accepted.contents_stay j))
      (λ j n. line_found h j (way_of g t j) (way_of g t_sent j) (queued_of t j) (queued_of t_sent j) (register_of t j) (register_of t j) (way_others j n (ap (is_for j) at)) (queue_same j) refl (line_as_before j))
      (queue_same k ∙ free)
      (subst (λ xs. Distinct queued_line xs) (sym queue_is) kept.queue_differs)
      (let l = ap length queue_is in omega arith)
    where
      queue_is : t_sent.queue.items ≡ t.queue.items
      queue_is = ap (λ x. evicted x t.queue.items) at

      queue_same : (j : ℕ) → queued_of t_sent j ≡ queued_of t j
      queue_same j = ap (entry_of queued_line j) queue_is

  -- the way held a line
  module _ (held : CachedLine) (at : way_at t.ways (k % g.sets) way ≡ Filled held) where
    victim_for : is_for held.line (way_at t.ways (k % g.sets) way) ≡ true
    victim_for = ap (is_for held.line) at ∙ eq-eqb held.line held.line refl

    victim_way : way_of g t held.line ≡ Filled held
    victim_way = (held_is g t.ways kept.own_way (k % g.sets) way set_there within (Reserved k) held.line victim_for).1 ∙ at

    victim_kept : GoodLine f held.line held.bytes × ConditionKept held.condition held.bytes (f.contents held.line) × (queued_of t held.line ≡ None) × (register_of t held.line ≡ None)
    victim_kept = filled_kept f held.line _ _ _ (kept.lines_kept held.line) held victim_way

    victim_other : k ≢ held.line
    victim_other e = none_some r (sym victim_kept.3 ∙ ap (register_of t) (sym e) ∙ found)

    victim_gone : way_of g t_sent held.line ≡ Empty
    victim_gone = way_victim held.line (λ e. victim_other (sym e)) victim_for

    other_ways : (j : ℕ) → j ≢ k → j ≢ held.line → way_of g t_sent j ≡ way_of g t j
    other_ways j n v = way_others j n (ap (is_for j) at ∙ ne_eqb held.line j (λ e. v (sym e)))

    -- the queue has it now, or the memory below has its bytes
    module _ (now : Option QueuedLine) (queue_now : queued_of t_sent held.line ≡ now) (queue_others : (j : ℕ) → j ≢ held.line → queued_of t_sent j ≡ queued_of t j) (bytes_now : queued_bytes now (h.contents held.line) ≡ held.bytes) (kept_now : QueuedKept h held.line now) where
      victim_base : base h g t_sent held.line ≡ base f g t held.line
      victim_base =
          ap (λ x. way_bytes x (queued_bytes (queued_of t_sent held.line) (h.contents held.line))) victim_gone
          ∙ ap (λ x. queued_bytes x (h.contents held.line)) queue_now
          ∙ bytes_now
          ∙ sym (ap (λ x. way_bytes x (queued_bytes (queued_of t held.line) (f.contents held.line))) victim_way)

      evicted_base : (j : ℕ) → j ≢ k → base h g t_sent j ≡ base f g t j
      evicted_base =
          each_line (λ j. j ≢ k → base h g t_sent j ≡ base f g t j) held.line
          (λ n. victim_base)
          (λ j v n. ap (λ x. way_bytes x (queued_bytes (queued_of t_sent j) (h.contents j))) (other_ways j n v)
          ∙ ap (λ x. way_bytes (way_of g t j) (queued_bytes x (h.contents j))) (queue_others j v)
          ∙ ap (λ x. way_bytes (way_of g t j) (queued_bytes (queued_of t j) x)) (accepted.contents_stay j))

      victim_line : LineKept h held.line Empty now None
      victim_line = record { way_kept = tt; queued_kept = kept_now; register_kept = tt; reserved = refl }

      evicted_lines : (j : ℕ) → j ≢ k → LineKept h j (way_of g t_sent j) (queued_of t_sent j) (register_of t j)
      evicted_lines =
          each_line (λ j. j ≢ k → LineKept h j (way_of g t_sent j) (queued_of t_sent j) (register_of t j)) held.line
          (λ n. line_found h held.line Empty (way_of g t_sent held.line) now (queued_of t_sent held.line) None (register_of t held.line) victim_gone queue_now victim_kept.3 victim_line)
          (λ j v n. line_found h j (way_of g t j) (way_of g t_sent j) (queued_of t j) (queued_of t_sent j) (register_of t j) (register_of t j) (other_ways j n v) (queue_others j v) refl (line_as_before j))

    sends_clean : held.condition ≡ Clean → Went f t h g t_sent
    sends_clean e =
        sends_by
        (evicted_base None (queue_same held.line ∙ victim_kept.2) (λ j v. queue_same j) bytes_below tt)
        (evicted_lines None (queue_same held.line ∙ victim_kept.2) (λ j v. queue_same j) bytes_below tt)
        (queue_same k ∙ free)
        (subst (λ xs. Distinct queued_line xs) (sym queue_is) kept.queue_differs)
        (let l = ap length queue_is in omega arith)
      where
        queue_is : t_sent.queue.items ≡ t.queue.items
        queue_is = ap (λ x. evicted x t.queue.items) at ∙ ap (λ c. evicted_line held c t.queue.items) e

        queue_same : (j : ℕ) → queued_of t_sent j ≡ queued_of t j
        queue_same j = ap (entry_of queued_line j) queue_is

        bytes_below : h.contents held.line ≡ held.bytes
        bytes_below = accepted.contents_stay held.line ∙ sym (subst (λ c. ConditionKept c held.bytes (f.contents held.line)) e victim_kept.1)

    sends_dirty : held.condition ≡ Dirty → Went f t h g t_sent
    sends_dirty e =
        sends_by
        (evicted_base (Some joined) queue_victim queue_others refl good)
        (evicted_lines (Some joined) queue_victim queue_others refl good)
        (queue_others k victim_other ∙ free)
        (subst (λ xs. Distinct queued_line xs) (sym queue_is) (distinct_push queued_line t.queue.items joined kept.queue_differs victim_kept.2))
        (let l = ap length queue_is in let m = length_push t.queue.items joined in omega arith)
      where
        joined : QueuedLine
        joined = record { line = held.line; bytes = held.bytes }

        queue_is : t_sent.queue.items ≡ t.queue.items ++ (joined ∷ [])
        queue_is = ap (λ x. evicted x t.queue.items) at ∙ ap (λ c. evicted_line held c t.queue.items) e ∙ pushed_room 4 t.queue.items joined room

        queue_victim : queued_of t_sent held.line ≡ Some joined
        queue_victim = ap (entry_of queued_line held.line) queue_is ∙ push_found queued_line t.queue.items joined victim_kept.2

        queue_others : (j : ℕ) → j ≢ held.line → queued_of t_sent j ≡ queued_of t j
        queue_others j v = ap (entry_of queued_line j) queue_is ∙ push_other queued_line t.queue.items joined j v

        good : GoodLine h held.line held.bytes
        good = good_same f h held.line accepted.fixed.lines_stay (accepted.fixed.bad_stay held.line) held.bytes victim_kept.0

  pub sends : Went f t h g t_sent
  sends = go (way_at t.ways (k % g.sets) way) refl
    where
      by_condition : (held : CachedLine) → way_at t.ways (k % g.sets) way ≡ Filled held → (c : Condition) → held.condition ≡ c → Went f t h g t_sent
      by_condition held at Clean e = sends_clean held at e
      by_condition held at Dirty e = sends_dirty held at e

      go : (x : Way) → way_at t.ways (k % g.sets) way ≡ x → Went f t h g t_sent
      go Empty at = sends_empty at
      go (Reserved j) at = absurd (let z : ◌≡◌ {A = Bool} true false = sym (ap is_reserved at) ∙ unreserved in let y : ◌≡◌ {A = ℕ} 0 1 = cc in omega arith)
      go (Filled held) at = by_condition held at held.condition refl
