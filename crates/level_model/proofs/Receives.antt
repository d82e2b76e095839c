-- the answer that leaves, and what the memory below answered
use Rattle.std.proofs.Common.{◌≡◌, ◌≢◌, ◌⊎◌, inl, ℕ, ◌+◌, ◌*◌, ◌%◌, ◌<◌, ◌≤◌, Bool, true, false, cond, eqb, List, ◌∷◌, ◌++◌, length, find, is_some, Some, None, Option, sym, refl, ap, ◌∙◌, subst, arith, eq-eqb, eqb-true, ne_eqb}
use Rattle.std.proofs.lemmas.Bool.{eqb-false}
use Rattle.std.proofs.lemmas.List.{length-append}
use Rattle.std.specs.Option.{option_map}
use Rattle.list.specs.Keyed.{Distinct}
use Rattle.list.proofs.Distinct.{without_other, gone, distinct_without}
use Rattle.memory.specs.Meaning.{Facts, Well, Fixed, ContentsStay, Answered, StepMeans}
use Rattle.memory.specs.Replies.{read_due, status_of, delivered}
use Rattle.memory.specs.declared.replies.Answer.{Answer}
use Rattle.memory.specs.declared.replies.Fault.{Fault}
use Rattle.replacement.specs.declared.geometry.Geometry.{Geometry}
use Rattle.level_model.proofs.Asks.{each_line}
use Rattle.level_model.proofs.Lines.{line_same, line_found, awaited_kept, sent_kept, reserved_by}
use Rattle.list.proofs.Entries.{none_some, Around, around, moved_up_found, moved_up_distinct, total_without, found_is_entry, found_none}
use Rattle.level_model.proofs.Pushed.{pushed_all_room}
use Rattle.level_model.proofs.Open.{Left, Calm, shown_as}
use Rattle.level_model.proofs.Rows.{is_inside, put_beyond, sets_stay, row_length, index_some, index_none, held_is, put_other, put_own, put_new, put_gone, sets_few, set_small}
use Rattle.level_model.proofs.Targets.{length_bytes_after, length_dues, bytes_bad, dues_bad, clean_bytes, dues_of_append, dues_of_but, dues_of_same}
use Rattle.level_model.specs.Facts.{way_for, way_of, queued_bytes, way_bytes, base, targets_in, dues_of, open_of, due_in, waiting_count, level_facts}
use Rattle.level_model.specs.Kept.{ConditionKept, WayKept, QueuedKept, RegisterKept, sent_ticket, LineKept, Kept}
use Rattle.level_model.specs.Registers.{ticket_of, register_line, dues, bytes_after, condition_after, sent_in, is_waiting, is_sent_under}
use Rattle.level_model.specs.Steps.{with_ready, line_sent, fault_in, arrival_at, arrival_of, arrival, pushed_all, way_after, ended, received}
use Rattle.level_model.specs.Tables.{register_of, queued_of, target_count}
use Rattle.level_model.specs.Ways.{row, way_at, is_for, is_reserved, index_for}
use Rattle.level_model.specs.declared.registers.Progress.{Progress}
use Rattle.level_model.specs.declared.registers.Progress.TheVariants.{Waiting, Sent}
use Rattle.level_model.specs.declared.registers.Ready.{Ready}
use Rattle.level_model.specs.declared.registers.Register.{Register}
use Rattle.level_model.specs.declared.tables.Arrival.{Arrival}
use Rattle.level_model.specs.declared.tables.Tables.{Tables}
use Rattle.level_model.specs.declared.ways.Condition.{Condition}
use Rattle.level_model.specs.declared.ways.Condition.TheVariants.{Clean, Dirty}
use Rattle.level_model.specs.declared.ways.Way.{Way}
use Rattle.level_model.specs.declared.ways.Way.TheVariants.{Empty, Reserved, Filled}

-- the answer that has been ready longest leaves
pub leaves : (f : Facts) (g : Geometry) (t : Tables) (x : Ready) (rest : List Ready) → t.ready.items ≡ x ∷ rest → Kept f g t → Kept f g (with_ready rest t) × Left (level_facts f g t) x (level_facts f g (with_ready rest t))
leaves f g t x rest e kept =
    subst (λ xs. Kept f g (with_ready xs t) → Kept f g (with_ready rest t) × Left (level_facts f g (with_ready xs t)) x (level_facts f g (with_ready rest t))) (sym e) at kept
  where
    at : Kept f g (with_ready (x ∷ rest) t) → Kept f g (with_ready rest t) × Left (level_facts f g (with_ready (x ∷ rest) t)) x (level_facts f g (with_ready rest t))
    at s = (
      record {
        lines_kept = s.lines_kept;
        own_way = s.own_way;
        registers_differ = s.registers_differ;
        queue_differs = s.queue_differs;
        sent_differ = s.sent_differ;
        tickets_differ = s.tickets_differ.1;
        few = let few = s.few in omega arith;
        all_sets = s.all_sets;
        all_ways = s.all_ways;
        beyond = s.beyond;
      },
      record {
        fixed = record { lines_stay = refl; bad_stay = λ k. refl; pace_stays = refl };
        contents_stay = λ k. refl;
        was_due = rw (eq-eqb x.ticket x.ticket refl) refl;
        closed = ap (option_map (λ (y : Ready). y.reply)) s.tickets_differ.0;
        others = λ u other. sym (rw (ne_eqb x.ticket u (λ z. other (sym z))) refl);
        lowered = omega arith;
      },
    )

-- a level that changes no table sees nothing, while the memory below changes and what its registers were sent for stays due
pub record Quiet (f : Facts) (t : Tables) (h : Facts) (g : Geometry) (u : Tables) : Type 0 where
  pub kept : Kept h g u
  pub calm : Calm (level_facts f g t) (level_facts h g u)
  pub falls : h.owed < f.owed → (level_facts h g u).owed < (level_facts f g t).owed

module _ (f h : Facts) (g : Geometry) (t : Tables) (kept : Kept f g t) (fixed : Fixed f h) (stay : ContentsStay f h) where
  base_stays : (k : ℕ) → base h g t k ≡ base f g t k
  base_stays k = ap (λ bytes. way_bytes (way_of g t k) (queued_bytes (queued_of t k) bytes)) (stay k)

  pub quiet : h.owed ≤ f.owed → ((k ticket : ℕ) → sent_ticket (register_of t k) ≡ Some ticket → h.due ticket ≡ f.due ticket) → Quiet f t h g t
  quiet most due =
      let same : open_of h g t ≡ open_of f g t = ap (λ xs. t.ready.items ++ xs) (dues_of_same f.bad h.bad (base f g t) (base h g t) base_stays fixed.bad_stay t.registers.items) in
      let p : (h.pace + h.pace + 2) * waiting_count t.registers.items ≡ (f.pace + f.pace + 2) * waiting_count t.registers.items = ap (λ n. (n + n + 2) * waiting_count t.registers.items) fixed.pace_stays in
      let q : (h.pace + 1) * length t.queue.items ≡ (f.pace + 1) * length t.queue.items = ap (λ n. (n + 1) * length t.queue.items) fixed.pace_stays in
      record {
        kept = record {
          lines_kept = λ k. line_same f h k fixed.lines_stay (fixed.bad_stay k) (stay k) (way_of g t k) (queued_of t k) (register_of t k) (due k) (kept.lines_kept k);
          own_way = kept.own_way;
          registers_differ = kept.registers_differ;
          queue_differs = kept.queue_differs;
          sent_differ = kept.sent_differ;
          tickets_differ = subst (λ xs. Distinct ticket_of xs) (sym same) kept.tickets_differ;
          few = kept.few;
          all_sets = kept.all_sets;
          all_ways = kept.all_ways;
          beyond = kept.beyond;
        };
        calm = record {
          fixed = record { lines_stay = fixed.lines_stay; bad_stay = fixed.bad_stay; pace_stays = ap (λ n. n + n + 3) fixed.pace_stays };
          contents_stay = λ k. ap (λ x. bytes_after x (base h g t k) (targets_in (register_of t k))) (fixed.bad_stay k) ∙ ap (λ bytes. bytes_after (f.bad k) bytes (targets_in (register_of t k))) (base_stays k);
          due_stays = λ u. ap (λ xs. due_in xs u) same;
          not_raised = omega arith;
        };
        falls = λ less. omega arith;
      }

read_fault : (d : Option Fault) (bytes : List ℕ) → fault_in (status_of (read_due d bytes)) ≡ d
read_fault None bytes = refl
read_fault (Some fault) bytes = refl

read_bytes : (d : Option Fault) (bytes before : List ℕ) → d ≡ None → delivered (read_due d bytes) before ≡ bytes
read_bytes None bytes before e = refl
read_bytes (Some fault) bytes before e = absurd (none_some fault (sym e))

sent_is : (ticket : ℕ) (p : Progress) → is_sent_under ticket p ≡ true → sent_in p ≡ Some ticket
sent_is ticket Waiting e = absurd (let z : ◌≡◌ {A = ℕ} 0 1 = cc in omega arith)
sent_is ticket (Sent n) e = ap (λ x. Some x) (eqb-true n ticket e)

not_sent_is : (ticket : ℕ) (p : Progress) → is_sent_under ticket p ≡ false → sent_in p ≢ Some ticket
not_sent_is ticket Waiting e s = none_some ticket s
not_sent_is ticket (Sent n) e s = eqb-false n ticket e (let z : n ≡ ticket = cc in z)

sent_waits_not : (ticket : ℕ) (p : Progress) → sent_in p ≡ Some ticket → is_waiting p ≡ false
sent_waits_not ticket Waiting e = absurd (none_some ticket e)
sent_waits_not ticket (Sent n) e = refl

reserved_is : (k : ℕ) (w : Way) → is_reserved w ≡ true → is_for k w ≡ true → w ≡ Reserved k
reserved_is k Empty r e = absurd (let z : ◌≡◌ {A = ℕ} 0 1 = cc in omega arith)
reserved_is k (Reserved j) r e = ap (λ n. Reserved n) (eqb-true j k e)
reserved_is k (Filled held) r e = absurd (let z : ◌≡◌ {A = ℕ} 0 1 = cc in omega arith)

-- what came from below for a line ends the line's register
module _ (f h : Facts) (w : Well f) (g : Geometry) (t : Tables) (kept : Kept f g t) (a : Answer) (lent bytes : List ℕ) (answered : Answered f lent a h bytes) (k : ℕ) (r : Register) (found : register_of t k ≡ Some r) (under : sent_in r.progress ≡ Some a.ticket) (way : ℕ) (within : way < length (row t.ways (k % g.sets))) (for_it : is_for k (way_at t.ways (k % g.sets) way) ≡ true) (fault : Option Fault) (fault_is : fault ≡ f.bad k) (bytes_are : fault ≡ None → bytes ≡ f.contents k) where
  abbrev came : Arrival
  came = record { line = k; set = k % g.sets; way = way; fault = fault }

  abbrev new_way : Way
  new_way = way_after k fault (bytes_after fault bytes r.targets.items) (condition_after Clean r.targets.items)

  abbrev t_ended : Tables
  t_ended = ended came bytes (Some r) t

  known : LineKept f k (way_of g t k) (queued_of t k) (register_of t k)
  known = kept.lines_kept k

  under_it : sent_ticket (register_of t k) ≡ Some a.ticket
  under_it = ap sent_ticket found ∙ under

  set_there : k % g.sets < length t.ways.sets
  set_there = omega (arith, set_small g k, sets_few g, kept.all_sets)

  was : way_of g t k ≡ way_at t.ways (k % g.sets) way
  was = (held_is g t.ways kept.own_way (k % g.sets) way set_there within new_way k for_it).1

  was_reserved : way_at t.ways (k % g.sets) way ≡ Reserved k
  was_reserved = reserved_is k (way_at t.ways (k % g.sets) way) (ap is_reserved (sym was) ∙ reserved_by f k _ _ _ known a.ticket under_it) for_it

  kept_free : Reserved k ≡ Empty → ⊥
  kept_free e = let z : ◌≡◌ {A = ℕ} 0 1 = cc in omega arith

  not_queued : queued_of t k ≡ None
  not_queued = (sent_kept f k _ _ _ known a.ticket under_it).0

  for_old : (j : ℕ) → j ≢ k → is_for j (way_at t.ways (k % g.sets) way) ≡ false
  for_old j n = ap (is_for j) was_reserved ∙ ne_eqb k j (λ e. n (sym e))

  for_new : (j : ℕ) → j ≢ k → is_for j new_way ≡ false
  for_new j n = go fault
    where
      go : (x : Option Fault) → is_for j (way_after k x (bytes_after fault bytes r.targets.items) (condition_after Clean r.targets.items)) ≡ false
      go None = ne_eqb k j (λ e. n (sym e))
      go (Some y) = refl

  fits : (j : ℕ) → is_for j new_way ≡ true → (j % g.sets ≡ k % g.sets) × ((is_for j (way_at t.ways (k % g.sets) way) ≡ true) ⊎ (way_for j (row t.ways (k % g.sets)) ≡ Empty))
  fits j e = at (eqb j k) refl
    where
      at : (b : Bool) → eqb j k ≡ b → (j % g.sets ≡ k % g.sets) × ((is_for j (way_at t.ways (k % g.sets) way) ≡ true) ⊎ (way_for j (row t.ways (k % g.sets)) ≡ Empty))
      at true is = let same = eqb-true j k is in (ap (λ n. n % g.sets) same, inl (ap (λ n. is_for n (way_at t.ways (k % g.sets) way)) same ∙ for_it))
      at false is = absurd (let f = for_new j (eqb-false j k is) in let z : ◌≡◌ {A = ℕ} 0 1 = cc in omega arith)

  way_stays : (j : ℕ) → j ≢ k → way_of g t_ended j ≡ way_of g t j
  way_stays j n = put_other g t.ways kept.own_way (k % g.sets) way set_there within new_way j (for_old j n) (for_new j n)

  way_now : way_of g t_ended k ≡ new_way
  way_now = go fault refl
    where
      go : (x : Option Fault) → fault ≡ x → way_of g t_ended k ≡ new_way
      go None e =
          put_new g t.ways kept.own_way (k % g.sets) way set_there within new_way fits k
          (ap (λ x. is_for k (way_after k x (bytes_after fault bytes r.targets.items) (condition_after Clean r.targets.items))) e ∙ eq-eqb k k refl)
      go (Some y) e =
          let empty : new_way ≡ Empty = ap (λ x. way_after k x (bytes_after fault bytes r.targets.items) (condition_after Clean r.targets.items)) e in
          put_gone g t.ways kept.own_way (k % g.sets) way set_there within new_way fits k for_it (ap (is_for k) empty) ∙ sym empty

  around_it : Around register_line k t.registers.items r
  around_it = around register_line k t.registers.items r found

  line_is : r.line ≡ k
  line_is = around_it.has

  register_gone : register_of t_ended k ≡ None
  register_gone = gone register_line t.registers.items k kept.registers_differ

  register_stays : (j : ℕ) → j ≢ k → register_of t_ended j ≡ register_of t j
  register_stays j n = without_other register_line t.registers.items j k n

  was_below : base f g t k ≡ f.contents k
  was_below =
      ap (λ x. way_bytes x (queued_bytes (queued_of t k) (f.contents k))) (was ∙ was_reserved)
      ∙ ap (λ q. queued_bytes q (f.contents k)) not_queued

  had_contents : (level_facts f g t).contents k ≡ bytes_after fault (f.contents k) r.targets.items
  had_contents =
      ap (λ x. bytes_after (f.bad k) (base f g t k) (targets_in x)) found
      ∙ ap (λ x. bytes_after x (base f g t k) r.targets.items) (sym fault_is)
      ∙ ap (λ x. bytes_after fault x r.targets.items) was_below

  has_base : base h g t_ended k ≡ bytes_after fault (f.contents k) r.targets.items
  has_base = ap (λ x. way_bytes x (queued_bytes (queued_of t k) (h.contents k))) way_now ∙ go fault refl
    where
      go : (x : Option Fault) → fault ≡ x → way_bytes (way_after k x (bytes_after fault bytes r.targets.items) (condition_after Clean r.targets.items)) (queued_bytes (queued_of t k) (h.contents k)) ≡ bytes_after fault (f.contents k) r.targets.items
      go None e = ap (λ x. bytes_after fault x r.targets.items) (bytes_are e)
      go (Some y) e = ap (λ q. queued_bytes q (h.contents k)) not_queued ∙ answered.contents_stay k ∙ sym (ap (λ x. bytes_after x (f.contents k) r.targets.items) e ∙ bytes_bad y (f.contents k) r.targets.items)

  base_others : (j : ℕ) → j ≢ k → base h g t_ended j ≡ base f g t j
  base_others j n =
      ap (λ x. way_bytes x (queued_bytes (queued_of t j) (h.contents j))) (way_stays j n)
      ∙ ap (λ x. way_bytes (way_of g t j) (queued_bytes (queued_of t j) x)) (answered.contents_stay j)

  contents_end : (j : ℕ) → (level_facts h g t_ended).contents j ≡ (level_facts f g t).contents j
  contents_end =
      each_line (λ j. (level_facts h g t_ended).contents j ≡ (level_facts f g t).contents j) k
      (ap (λ x. bytes_after (h.bad k) (base h g t_ended k) (targets_in x)) register_gone ∙ has_base ∙ sym had_contents)
      (λ j n. ap (λ x. bytes_after (h.bad j) (base h g t_ended j) (targets_in x)) (register_stays j n)
      ∙ ap (λ x. bytes_after x (base h g t_ended j) (targets_in (register_of t j))) (answered.fixed.bad_stay j)
      ∙ ap (λ x. bytes_after (f.bad j) x (targets_in (register_of t j))) (base_others j n))

  -- what was due to the targets is ready
  abbrev served : List Ready
  served = dues (f.bad r.line) (base f g t r.line) r.targets.items

  served_is : dues fault bytes r.targets.items ≡ served
  served_is = go fault refl ∙ ap (λ j. dues (f.bad j) (base f g t j) r.targets.items) (sym line_is)
    where
      go : (x : Option Fault) → fault ≡ x → dues fault bytes r.targets.items ≡ dues (f.bad k) (base f g t k) r.targets.items
      go None e = ap (λ x. dues x bytes r.targets.items) fault_is ∙ ap (λ x. dues (f.bad k) x r.targets.items) (bytes_are e ∙ sym was_below)
      go (Some y) e =
          ap (λ x. dues x bytes r.targets.items) e
          ∙ dues_bad y bytes (base f g t k) r.targets.items
          ∙ ap (λ x. dues x (base f g t k) r.targets.items) (sym e ∙ fault_is)

  abbrev before_it : List Ready
  before_it = dues_of f.bad (base f g t) around_it.before

  abbrev behind_it : List Ready
  behind_it = dues_of f.bad (base f g t) around_it.after

  had_open : open_of f g t ≡ t.ready.items ++ (before_it ++ (served ++ behind_it))
  had_open =
      ap (λ rs. t.ready.items ++ dues_of f.bad (base f g t) rs) around_it.whole
      ∙ ap (λ xs. t.ready.items ++ xs) (dues_of_append f.bad (base f g t) around_it.before (r ∷ around_it.after))

  served_few : length t.ready.items + length r.targets.items ≤ 16
  served_few = omega (arith, kept.few, total_without register_line (λ (x : Register). length x.targets.items) k t.registers.items r found)

  ready_now : t_ended.ready.items ≡ t.ready.items ++ served
  ready_now =
      ap (pushed_all 16 t.ready.items) served_is
      ∙ pushed_all_room 16 t.ready.items served (omega (arith, served_few, length_dues (f.bad r.line) (base f g t r.line) r.targets.items))

  has_open : open_of h g t_ended ≡ (t.ready.items ++ served) ++ (before_it ++ behind_it)
  has_open =
      ap (λ xs. xs ++ dues_of h.bad (base h g t_ended) t_ended.registers.items) ready_now
      ∙ ap (λ xs. (t.ready.items ++ served) ++ xs)
      (dues_of_but f.bad h.bad (base f g t) (base h g t_ended) k t_ended.registers.items register_gone base_others answered.fixed.bad_stay
      ∙ ap (dues_of f.bad (base f g t)) around_it.left
      ∙ dues_of_append f.bad (base f g t) around_it.before around_it.after)

  differ_had : Distinct ticket_of (t.ready.items ++ (before_it ++ (served ++ behind_it)))
  differ_had = subst (λ xs. Distinct ticket_of xs) had_open kept.tickets_differ

  due_end : (u : ℕ) → (level_facts h g t_ended).due u ≡ (level_facts f g t).due u
  due_end u =
      ap (λ xs. due_in xs u) has_open
      ∙ ap (option_map (λ (x : Ready). x.reply)) (moved_up_found ticket_of t.ready.items before_it served behind_it differ_had u)
      ∙ ap (λ xs. due_in xs u) (sym had_open)

  count_now : length t_ended.ready.items ≡ length t.ready.items + length r.targets.items
  count_now = ap length ready_now ∙ length-append t.ready.items served ∙ ap (λ n. length t.ready.items + n) (length_dues (f.bad r.line) (base f g t r.line) r.targets.items)

  targets_now : target_count t_ended.registers.items + length r.targets.items ≡ target_count t.registers.items
  targets_now = total_without register_line (λ (x : Register). length x.targets.items) k t.registers.items r found

  waiting_now : waiting_count t_ended.registers.items ≡ waiting_count t.registers.items
  waiting_now =
      let e = total_without register_line (λ (x : Register). cond (is_waiting x.progress) 1 0) k t.registers.items r found in
      let z : ◌≡◌ {A = ℕ} (cond (is_waiting r.progress) 1 0) 0 = ap (λ b. cond b 1 0) (sent_waits_not a.ticket r.progress under) in
      omega arith

  condition_end : (c : Condition) → condition_after Clean r.targets.items ≡ c → fault ≡ None → ConditionKept c (bytes_after fault bytes r.targets.items) (h.contents k)
  condition_end Dirty e none = tt
  condition_end Clean e none = ap (λ x. bytes_after x bytes r.targets.items) none ∙ clean_bytes r.targets.items bytes e ∙ bytes_are none ∙ sym (answered.contents_stay k)

  inside : k < f.lines
  inside = (awaited_kept f k _ _ _ known r found).0

  way_end : (x : Option Fault) → fault ≡ x → WayKept h k (way_after k x (bytes_after fault bytes r.targets.items) (condition_after Clean r.targets.items)) (queued_of t k) (register_of t_ended k)
  way_end (Some y) e = tt
  way_end None e = (
    (rw answered.fixed.lines_stay inside, answered.fixed.bad_stay k ∙ sym fault_is ∙ e, length_bytes_after fault bytes r.targets.items ∙ ap length (bytes_are e) ∙ w.whole k inside),
    condition_end (condition_after Clean r.targets.items) refl e,
    not_queued,
    register_gone,
  )

  new_not_reserved : (x : Option Fault) → is_reserved (way_after k x (bytes_after fault bytes r.targets.items) (condition_after Clean r.targets.items)) ≡ false
  new_not_reserved None = refl
  new_not_reserved (Some y) = refl

  line_end : LineKept h k new_way (queued_of t k) (register_of t_ended k)
  line_end = record {
    way_kept = way_end fault refl;
    queued_kept = subst (λ q. QueuedKept h k q) (sym not_queued) tt;
    register_kept = subst (λ x. RegisterKept h k x (queued_of t k)) (sym register_gone) tt;
    reserved = new_not_reserved fault ∙ sym (ap (λ x. is_some (sent_ticket x)) register_gone);
  }

  -- what other registers were sent for is still due
  others_due : (j ticket : ℕ) → j ≢ k → sent_ticket (register_of t j) ≡ Some ticket → h.due ticket ≡ f.due ticket
  others_due j ticket n e = answered.others ticket (λ same. n (kept.sent_differ j k ticket e (under_it ∙ ap (λ x. Some x) (sym same))))

  line_others : (j : ℕ) → j ≢ k → LineKept h j (way_of g t_ended j) (queued_of t j) (register_of t_ended j)
  line_others j n =
      line_found h j (way_of g t j) (way_of g t_ended j) (queued_of t j) (queued_of t j) (register_of t j) (register_of t_ended j) (way_stays j n) refl (register_stays j n)
      (line_same f h j answered.fixed.lines_stay (answered.fixed.bad_stay j) (answered.contents_stay j) (way_of g t j) (queued_of t j) (register_of t j) (λ ticket e. others_due j ticket n e) (kept.lines_kept j))

  sent_before : (j ticket : ℕ) → sent_ticket (register_of t_ended j) ≡ Some ticket → sent_ticket (register_of t j) ≡ Some ticket
  sent_before j ticket =
      each_line (λ j. sent_ticket (register_of t_ended j) ≡ Some ticket → sent_ticket (register_of t j) ≡ Some ticket) k
      (λ e. absurd (none_some ticket (sym (ap sent_ticket register_gone) ∙ e)))
      (λ j n e. ap sent_ticket (sym (register_stays j n)) ∙ e) j

  pub ends : Quiet f t h g t_ended
  ends =
      let c = count_now in
      let a = targets_now in
      let b = waiting_now in
      let p : (h.pace + h.pace + 2) * waiting_count t_ended.registers.items ≡ (f.pace + f.pace + 2) * waiting_count t.registers.items = ap (λ n. (n + n + 2) * waiting_count t_ended.registers.items) answered.fixed.pace_stays ∙ ap (λ n. (f.pace + f.pace + 2) * n) b in
      let q : (h.pace + 1) * length t.queue.items ≡ (f.pace + 1) * length t.queue.items = ap (λ n. (n + 1) * length t.queue.items) answered.fixed.pace_stays in
      let less = answered.lowered in
      let falls : (level_facts h g t_ended).owed < (level_facts f g t).owed = omega arith in
      record {
        kept = record {
          lines_kept = each_line (λ j. LineKept h j (way_of g t_ended j) (queued_of t j) (register_of t_ended j)) k
              (line_found h k new_way (way_of g t_ended k) (queued_of t k) (queued_of t k) (register_of t_ended k) (register_of t_ended k) way_now refl refl line_end)
              line_others;
          own_way = put_own g t.ways kept.own_way (k % g.sets) way set_there within new_way fits;
          registers_differ = distinct_without register_line t.registers.items k kept.registers_differ;
          queue_differs = kept.queue_differs;
          sent_differ = λ line other ticket a b. kept.sent_differ line other ticket (sent_before line ticket a) (sent_before other ticket b);
          tickets_differ = subst (λ xs. Distinct ticket_of xs) (sym has_open) (moved_up_distinct ticket_of t.ready.items before_it served behind_it differ_had);
          few = let few = kept.few in omega arith;
          all_sets = sets_stay t.ways (k % g.sets) way new_way ∙ kept.all_sets;
          all_ways = λ s below. row_length t.ways (k % g.sets) way s new_way set_there ∙ kept.all_ways s below;
          beyond = put_beyond g t.ways (k % g.sets) way new_way set_there (is_inside g t.ways kept.beyond (k % g.sets) way (λ e. kept_free (sym was_reserved ∙ e))) kept.beyond;
        };
        calm = record {
          fixed = record { lines_stay = answered.fixed.lines_stay; bad_stay = answered.fixed.bad_stay; pace_stays = ap (λ n. n + n + 3) answered.fixed.pace_stays };
          contents_stay = contents_end;
          due_stays = due_end;
          not_raised = omega arith;
        };
        falls = λ _. falls;
      }

-- the register that a ticket was sent for
line_sent_some : (ticket line : ℕ) (o : Option Register) → option_map register_line o ≡ Some line → (r : Register) × ((o ≡ Some r) × (r.line ≡ line))
line_sent_some ticket line None e = absurd (none_some line e)
line_sent_some ticket line (Some r) e = (r, (refl, (let z : r.line ≡ line = cc in z)))

line_sent_none : (o : Option Register) → option_map register_line o ≡ None → o ≡ None
line_sent_none None e = refl
line_sent_none (Some r) e = absurd (none_some (register_line r) (sym e))

some_register : (x : Option Register) (ticket : ℕ) → sent_ticket x ≡ Some ticket → (r : Register) × ((x ≡ Some r) × (sent_in r.progress ≡ Some ticket))
some_register None ticket e = absurd (none_some ticket e)
some_register (Some r) ticket e = (r, (refl, e))

-- the memory below made a step, and the tables take what it answered
module _ (f h : Facts) (w : Well f) (g : Geometry) (t : Tables) (kept : Kept f g t) (bytes lent : List ℕ) where
  -- what no register was sent for is dropped
  dropped : (a : Answer) → Answered f lent a h bytes → line_sent a.ticket t.registers.items ≡ None → Quiet f t h g t
  dropped a answered none =
      quiet f h g t kept answered.fixed answered.contents_stay (let l = answered.lowered in omega arith)
      (λ k ticket e. answered.others ticket (λ same.
      let r = some_register (register_of t k) ticket e in
      let not_under = found_none register_line (λ (x : Register). is_sent_under a.ticket x.progress) t.registers.items (line_sent_none (find (λ (x : Register). is_sent_under a.ticket x.progress) t.registers.items) none) k r.0 r.1.0 in
      not_sent_is a.ticket r.0.progress not_under (r.1.1 ∙ ap (λ n. Some n) same)))

  came_for : (a : Answer) → Answered f lent a h bytes → (k : ℕ) (r : Register) → register_of t k ≡ Some r → sent_in r.progress ≡ Some a.ticket → (o : Option ℕ) → index_for k (row t.ways (k % g.sets)) ≡ o → Quiet f t h g (received (arrival_at k (k % g.sets) (fault_in a.status) o) bytes t)
  came_for a answered k r found under None e =
      absurd
      (let empty = index_none k (row t.ways (k % g.sets)) e in
      let reserved = reserved_by f k _ _ _ (kept.lines_kept k) a.ticket (ap sent_ticket found ∙ under) in
      let not : is_reserved (way_of g t k) ≡ false = ap is_reserved empty in
      let z : ◌≡◌ {A = ℕ} 0 1 = cc in omega arith)
  came_for a answered k r found under (Some way) e =
      let i = index_some k (row t.ways (k % g.sets)) way e in
      let due = (sent_kept f k _ _ _ (kept.lines_kept k) a.ticket (ap sent_ticket found ∙ under)).1 in
      let shown = shown_as (read_due (f.bad k) (f.contents k)) a lent bytes (f.due a.ticket) due answered.shown in
      let fault : fault_in a.status ≡ f.bad k = ap fault_in shown.0 ∙ read_fault (f.bad k) (f.contents k) in
      subst (λ x. Quiet f t h g (ended (record { line = k; set = k % g.sets; way = way; fault = fault_in a.status }) bytes x t)) (sym found)
      (ends f h w g t kept a lent bytes answered k r found under way i.0 i.1 (fault_in a.status) fault (λ none. shown.1 ∙ read_bytes (f.bad k) (f.contents k) lent (sym fault ∙ none)))

  brought : (a : Answer) → Answered f lent a h bytes → (o : Option ℕ) → line_sent a.ticket t.registers.items ≡ o → Quiet f t h g (received (arrival_of g t a o) bytes t)
  brought a answered None e = dropped a answered e
  brought a answered (Some k) e =
      let s = line_sent_some a.ticket k (find (λ (x : Register). is_sent_under a.ticket x.progress) t.registers.items) e in
      let q = found_is_entry register_line (λ (x : Register). is_sent_under a.ticket x.progress) t.registers.items s.0 kept.registers_differ s.1.0 in
      let found : register_of t k ≡ Some s.0 = ap (λ n. register_of t n) (sym s.1.1) ∙ q.1 in
      came_for a answered k s.0 found (sent_is a.ticket s.0.progress q.0) (index_for k (row t.ways (k % g.sets))) refl

  pub arrives : (got : Option Answer) → StepMeans f lent got h bytes → Quiet f t h g (received (arrival g t got) bytes t)
  arrives None m = quiet f h g t kept m.fixed m.contents_stay m.not_raised (λ k ticket e. m.due_stays ticket)
  arrives (Some a) m = brought a m (line_sent a.ticket t.registers.items) refl
