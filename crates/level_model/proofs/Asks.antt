-- a request that a level takes means what a request means
use Rattle.std.proofs.Common.{◌≡◌, ◌≢◌, ◌⊎◌, inl, ℕ, ◌+◌, ◌*◌, ◌%◌, ◌<◌, ◌≤◌, Bool, true, false, cond, eqb, leb, List, [], ◌∷◌, ◌++◌, length, get_or, is_some, Some, None, Option, sym, refl, ap, ◌∙◌, subst, arith, eq-eqb, eqb-true, ne_eqb}
use Rattle.std.proofs.lemmas.Bool.{eqb-false}
use Rattle.std.proofs.lemmas.Bool.Decides.{nat_tests}
use Rattle.std.proofs.lemmas.List.{append-nil, length_push, append_assoc}
use Rattle.std.specs.Option.{option_map}
use Rattle.list.specs.Keyed.{entry_of, Distinct}
use Rattle.list.proofs.Distinct.{push_found, push_other, distinct_push}
use Rattle.memory.specs.Meaning.{Facts, Open}
use Rattle.memory.specs.declared.replies.Reply.{Reply}
use Rattle.replacement.specs.declared.geometry.Geometry.{Geometry}
use Rattle.level_model.proofs.Lines.{line_found, filled_kept, awaited_kept, register_not_filled, no_way}
use Rattle.list.proofs.Entries.{none_each, entry_append, Around, around, mid_distinct, altered_other, altered_found, distinct_altered, total_altered, total_push}
use Rattle.level_model.proofs.Pushed.{pushed_room}
use Rattle.level_model.proofs.Open.{Accepted, opened_among}
use Rattle.level_model.proofs.Rows.{is_inside, put_beyond, sets_stay, row_length, holding_some, holding_none, held_is, put_other, put_own, put_new, sets_few, set_small}
use Rattle.level_model.proofs.Targets.{length_bytes_asked, dues_push, bytes_push, dues_of_append, dues_of_but, length_open, not_open, some_open}
use Rattle.level_model.specs.Facts.{way_for, way_of, queued_bytes, way_bytes, base, targets_in, dues_of, open_of, due_in, waiting_count, level_facts}
use Rattle.level_model.specs.Kept.{ConditionKept, WayKept, sent_ticket, LineKept, Kept}
use Rattle.level_model.specs.Registers.{ticket_of, register_line, reply_to, bytes_asked, condition_asked, dues, bytes_after, is_waiting}
use Rattle.level_model.specs.Tables.{register_of, queued_of, target_count, open_count, path_by, register_path, path_at, path, pushed, with_target, line_asked, hit_on, new_register, with_request, is_open, Takes, Asked}
use Rattle.list.specs.Keyed.{altered}
use Rattle.level_model.specs.Ways.{row, way_at, is_for, holding}
use Rattle.level_model.specs.declared.registers.Ask.{Ask}
use Rattle.level_model.specs.declared.registers.Ask.TheVariants.{Read, Write}
use Rattle.level_model.specs.declared.registers.QueuedLine.{QueuedLine}
use Rattle.level_model.specs.declared.registers.Ready.{Ready}
use Rattle.level_model.specs.declared.registers.Register.{Register}
use Rattle.level_model.specs.declared.registers.Target.{Target}
use Rattle.level_model.specs.declared.tables.Path.{Path}
use Rattle.level_model.specs.declared.tables.Path.TheVariants.{Hit, Merge, Miss}
use Rattle.level_model.specs.declared.tables.Tables.{Tables}
use Rattle.level_model.specs.declared.ways.CachedLine.{CachedLine}
use Rattle.level_model.specs.declared.ways.Condition.{Condition}
use Rattle.level_model.specs.declared.ways.Way.{Way}
use Rattle.level_model.specs.declared.ways.Way.TheVariants.{Empty, Reserved, Filled}

condition_kept : (c : Condition) (bytes below : List ℕ) (ask : Ask) → ConditionKept c bytes below → ConditionKept (condition_asked c ask) (bytes_asked None bytes ask) below
condition_kept c bytes below Read s = s
condition_kept c bytes below (Write mask new) s = tt

-- a line's contents after a request, and all others' as before
after_line : (had has : ℕ → List ℕ) (k : ℕ) (new : List ℕ) → has k ≡ new → ((j : ℕ) → j ≢ k → has j ≡ had j) → (j : ℕ) → has j ≡ cond (eqb j k) new (had j)
after_line had has k new e others j = go (eqb j k) refl
  where
    go : (b : Bool) → eqb j k ≡ b → has j ≡ cond b new (had j)
    go true is = ap has (eqb-true j k is) ∙ e
    go false is = others j (eqb-false j k is)

-- a fact of each line, by cases: this one, or another
pub each_line : (P : ℕ → Type 0) (k : ℕ) → P k → ((j : ℕ) → j ≢ k → P j) → (j : ℕ) → P j
each_line P k here others j = go (eqb j k) refl
  where
    go : (b : Bool) → eqb j k ≡ b → P j
    go true is = subst P (sym (eqb-true j k is)) here
    go false is = others j (eqb-false j k is)

-- the way of a line that has a register, whatever becomes of that
way_of_register : (f : Facts) (k : ℕ) (w : Way) (q : Option QueuedLine) (r s : Option Register) → LineKept f k w q r → (x : Register) → r ≡ Some x → WayKept f k w q s
way_of_register f k w q r s known x found = go w refl
  where
    go : (v : Way) → w ≡ v → WayKept f k v q s
    go Empty e = tt
    go (Reserved j) e = tt
    go (Filled held) e = absurd (register_not_filled f k w q r known x found held e)

-- an entry among others that have not its ticket
among_distinct : (xs ys : List Ready) (x : Ready) → Distinct ticket_of (xs ++ ys) → entry_of ticket_of x.ticket (xs ++ ys) ≡ None → Distinct ticket_of (xs ++ (x ∷ ys))
among_distinct xs ys x d none =
    let each = none_each (entry_of ticket_of x.ticket xs) (entry_of ticket_of x.ticket ys) (sym (entry_append ticket_of x.ticket xs ys) ∙ none) in
    mid_distinct ticket_of xs ys x each.0 each.1 d

-- a request for a line, under a ticket that is not open, where there is room
module _ (f : Facts) (g : Geometry) (t : Tables) (k : ℕ) (ask : Ask) (ticket : ℕ) (inside : k < f.lines) (kept : Kept f g t) (fresh : entry_of ticket_of ticket (open_of f g t) ≡ None) (room : open_count t < 16) where
  abbrev Goal : Tables → Type 0
  Goal u = Kept f g u × Accepted (level_facts f g t) k ask ticket (level_facts f g u)

  abbrev entry : Ready
  entry = record { ticket = ticket; reply = reply_to (f.bad k) ((level_facts f g t).contents k) ask }

  set_there : k % g.sets < length t.ways.sets
  set_there = omega (arith, set_small g k, sets_few g, kept.all_sets)

  -- a way holds the line
  module _ (w : ℕ) (held : CachedLine) (within : w < length (row t.ways (k % g.sets))) (at : way_at t.ways (k % g.sets) w ≡ Filled held) (is : held.line ≡ k) where
    abbrev way_hit : Way
    way_hit = Filled (line_asked held ask)

    abbrev t_hit : Tables
    t_hit = hit_on (Filled held) t (k % g.sets) w ticket ask

    full : (x : CachedLine) → Filled x ≡ Empty → ⊥
    full x e = let z : ◌≡◌ {A = ℕ} 0 1 = cc in omega arith

    for_held : (j : ℕ) → is_for j (way_at t.ways (k % g.sets) w) ≡ eqb held.line j
    for_held j = ap (is_for j) at

    for_line : eqb held.line k ≡ true
    for_line = eq-eqb held.line k is

    not_for : (j : ℕ) → j ≢ k → eqb held.line j ≡ false
    not_for j n = ne_eqb held.line j (λ e. n (sym e ∙ is))

    fits : (j : ℕ) → is_for j way_hit ≡ true → (j % g.sets ≡ k % g.sets) × ((is_for j (way_at t.ways (k % g.sets) w) ≡ true) ⊎ (way_for j (row t.ways (k % g.sets)) ≡ Empty))
    fits j e = (ap (λ n. n % g.sets) (sym (eqb-true held.line j e) ∙ is), inl (for_held j ∙ e))

    was_there : way_of g t k ≡ Filled held
    was_there = (held_is g t.ways kept.own_way (k % g.sets) w set_there within way_hit k (for_held k ∙ for_line)).1 ∙ at

    is_there : way_of g t_hit k ≡ way_hit
    is_there = put_new g t.ways kept.own_way (k % g.sets) w set_there within way_hit fits k for_line

    not_there : (j : ℕ) → j ≢ k → way_of g t_hit j ≡ way_of g t j
    not_there j n = put_other g t.ways kept.own_way (k % g.sets) w set_there within way_hit j (for_held j ∙ not_for j n) (not_for j n)

    other_base : (j : ℕ) → j ≢ k → base f g t_hit j ≡ base f g t j
    other_base j n = ap (λ x. way_bytes x (queued_bytes (queued_of t j) (f.contents j))) (not_there j n)

    known : LineKept f k (way_of g t k) (queued_of t k) (register_of t k)
    known = kept.lines_kept k

    had_bytes : (level_facts f g t).contents k ≡ held.bytes
    had_bytes =
        ap (λ r. bytes_after (f.bad k) (base f g t k) (targets_in r)) (filled_kept f k _ _ _ known held was_there).3
        ∙ ap (λ x. way_bytes x (queued_bytes (queued_of t k) (f.contents k))) was_there

    has_bytes : (level_facts f g t_hit).contents k ≡ bytes_asked None held.bytes ask
    has_bytes =
        ap (λ r. bytes_after (f.bad k) (base f g t_hit k) (targets_in r)) (filled_kept f k _ _ _ known held was_there).3
        ∙ ap (λ x. way_bytes x (queued_bytes (queued_of t k) (f.contents k))) is_there

    good : f.bad k ≡ None
    good = (filled_kept f k _ _ _ known held was_there).0.1

    due_now : reply_to None held.bytes ask ≡ reply_to (f.bad k) ((level_facts f g t).contents k) ask
    due_now = sym (ap (λ x. reply_to x ((level_facts f g t).contents k) ask) good ∙ ap (λ bytes. reply_to None bytes ask) had_bytes)

    abbrev rest : List Ready
    rest = dues_of f.bad (base f g t) t.registers.items

    ready_now : t_hit.ready.items ≡ t.ready.items ++ (entry ∷ [])
    ready_now =
        pushed_room 16 t.ready.items (record { ticket = ticket; reply = reply_to None held.bytes ask }) (λ e. omega arith)
        ∙ ap (λ (r : Reply). t.ready.items ++ (record { ticket = ticket; reply = r } ∷ [])) due_now

    open_now : open_of f g t_hit ≡ t.ready.items ++ (entry ∷ rest)
    open_now =
        ap (λ xs. xs ++ dues_of f.bad (base f g t_hit) t.registers.items) ready_now
        ∙ ap (λ xs. (t.ready.items ++ (entry ∷ [])) ++ xs) (dues_of_but f.bad f.bad (base f g t) (base f g t_hit) k t.registers.items (filled_kept f k _ _ _ known held was_there).3 other_base (λ j. refl))
        ∙ append_assoc t.ready.items (entry ∷ []) rest

    count_now : length t_hit.ready.items ≡ length t.ready.items + 1
    count_now = ap length ready_now ∙ length_push t.ready.items entry

    line_hit : LineKept f k way_hit (queued_of t k) (register_of t k)
    line_hit =
        let s = filled_kept f k _ _ _ known held was_there in
        record {
          way_kept = ((s.0.0, s.0.1, length_bytes_asked None held.bytes ask ∙ s.0.2), condition_kept held.condition held.bytes (f.contents k) ask s.1, s.2, s.3);
          queued_kept = known.queued_kept;
          register_kept = known.register_kept;
          reserved = sym (ap (λ r. is_some (sent_ticket r)) s.3);
        }

    pub hits : Goal t_hit
    hits = (
      record {
        lines_kept = each_line (λ j. LineKept f j (way_of g t_hit j) (queued_of t j) (register_of t j)) k
            (line_found f k way_hit (way_of g t_hit k) (queued_of t k) (queued_of t k) (register_of t k) (register_of t k) is_there refl refl line_hit)
            (λ j n. line_found f j (way_of g t j) (way_of g t_hit j) (queued_of t j) (queued_of t j) (register_of t j) (register_of t j) (not_there j n) refl refl (kept.lines_kept j));
        own_way = put_own g t.ways kept.own_way (k % g.sets) w set_there within way_hit fits;
        registers_differ = kept.registers_differ;
        queue_differs = kept.queue_differs;
        sent_differ = kept.sent_differ;
        tickets_differ = rw open_now (among_distinct t.ready.items rest entry kept.tickets_differ fresh);
        few = omega (arith, count_now);
        all_sets = sets_stay t.ways (k % g.sets) w way_hit ∙ kept.all_sets;
        all_ways = λ s below. row_length t.ways (k % g.sets) w s way_hit set_there ∙ kept.all_ways s below;
        beyond = put_beyond g t.ways (k % g.sets) w way_hit set_there (is_inside g t.ways kept.beyond (k % g.sets) w (λ e. full held (sym at ∙ e))) kept.beyond;
      },
      record {
        inside = inside;
        fixed = record { lines_stay = refl; bad_stay = λ j. refl; pace_stays = refl };
        after = after_line (level_facts f g t).contents (level_facts f g t_hit).contents k (bytes_asked (f.bad k) ((level_facts f g t).contents k) ask)
            (has_bytes ∙ sym (ap (λ x. bytes_asked x ((level_facts f g t).contents k) ask) good ∙ ap (λ bytes. bytes_asked None bytes ask) had_bytes))
            (λ j n. ap (λ bytes. bytes_after (f.bad j) bytes (targets_in (register_of t j))) (other_base j n));
        opens = opened_among (level_facts f g t) (level_facts f g t_hit) t.ready.items rest ticket (reply_to (f.bad k) ((level_facts f g t).contents k) ask) (λ u. refl) (λ u. ap (λ xs. due_in xs u) open_now) fresh (omega (arith, count_now));
      },
    )

  -- the line has a register with room for one more target
  module _ (r : Register) (found : register_of t k ≡ Some r) (few_targets : length r.targets.items ≢ 4) where
    abbrev target : Target
    target = record { ticket = ticket; ask = ask }

    abbrev t_merged : Tables
    t_merged = record t { registers = record { items = altered register_line k (with_target target) t.registers.items } }

    abbrev r_merged : Register
    r_merged = with_target target r

    targets_now : r_merged.targets.items ≡ r.targets.items ++ (target ∷ [])
    targets_now = pushed_room 4 r.targets.items target few_targets

    around_it : Around register_line k t.registers.items r
    around_it = around register_line k t.registers.items r found

    register_now : register_of t_merged k ≡ Some r_merged
    register_now = altered_found register_line k (with_target target) (λ x. refl) t.registers.items ∙ ap (option_map (with_target target)) found

    register_stays : (j : ℕ) → j ≢ k → register_of t_merged j ≡ register_of t j
    register_stays j n = altered_other register_line k (with_target target) (λ x. refl) j t.registers.items n

    sent_stays : (j : ℕ) → sent_ticket (register_of t_merged j) ≡ sent_ticket (register_of t j)
    sent_stays = each_line (λ j. sent_ticket (register_of t_merged j) ≡ sent_ticket (register_of t j)) k (ap sent_ticket register_now ∙ sym (ap sent_ticket found)) (λ j n. ap sent_ticket (register_stays j n))

    abbrev had_targets : List Ready
    had_targets = dues (f.bad r.line) (base f g t r.line) r.targets.items

    abbrev before_it : List Ready
    before_it = dues_of f.bad (base f g t) around_it.before

    abbrev behind_it : List Ready
    behind_it = dues_of f.bad (base f g t) around_it.after

    abbrev in_front : List Ready
    in_front = t.ready.items ++ (before_it ++ had_targets)

    had_open : open_of f g t ≡ in_front ++ behind_it
    had_open =
        ap (λ rs. t.ready.items ++ dues_of f.bad (base f g t) rs) around_it.whole
        ∙ ap (λ xs. t.ready.items ++ xs) (dues_of_append f.bad (base f g t) around_it.before (r ∷ around_it.after) ∙ sym (append_assoc before_it had_targets behind_it))
        ∙ sym (append_assoc t.ready.items (before_it ++ had_targets) behind_it)

    line_is : r.line ≡ k
    line_is = around_it.has

    had_contents : (level_facts f g t).contents k ≡ bytes_after (f.bad r.line) (base f g t r.line) r.targets.items
    had_contents =
        ap (λ x. bytes_after (f.bad k) (base f g t k) (targets_in x)) found
        ∙ ap (λ j. bytes_after (f.bad j) (base f g t j) r.targets.items) (sym line_is)

    targets_due : dues (f.bad r.line) (base f g t r.line) r_merged.targets.items ≡ had_targets ++ (entry ∷ [])
    targets_due =
        ap (dues (f.bad r.line) (base f g t r.line)) targets_now
        ∙ dues_push (f.bad r.line) (base f g t r.line) r.targets.items target
        ∙ ap (λ bytes. had_targets ++ (record { ticket = ticket; reply = reply_to (f.bad r.line) bytes ask } ∷ [])) (sym had_contents)
        ∙ ap (λ j. had_targets ++ (record { ticket = ticket; reply = reply_to (f.bad j) ((level_facts f g t).contents k) ask } ∷ [])) line_is

    merged_open : open_of f g t_merged ≡ in_front ++ (entry ∷ behind_it)
    merged_open =
        ap (λ rs. t.ready.items ++ dues_of f.bad (base f g t) rs) (around_it.altered_so (with_target target))
        ∙ ap (λ xs. t.ready.items ++ xs)
        (dues_of_append f.bad (base f g t) around_it.before (r_merged ∷ around_it.after)
        ∙ ap (λ xs. before_it ++ (xs ++ behind_it)) targets_due
        ∙ ap (λ xs. before_it ++ xs) (append_assoc had_targets (entry ∷ []) behind_it)
        ∙ sym (append_assoc before_it had_targets (entry ∷ behind_it)))
        ∙ sym (append_assoc t.ready.items (before_it ++ had_targets) (entry ∷ behind_it))

    fresh_among : entry_of ticket_of ticket (in_front ++ behind_it) ≡ None
    fresh_among = ap (entry_of ticket_of ticket) (sym had_open) ∙ fresh

    differ_among : Distinct ticket_of (in_front ++ behind_it)
    differ_among = subst (λ xs. Distinct ticket_of xs) had_open kept.tickets_differ

    one_more : target_count t_merged.registers.items ≡ target_count t.registers.items + 1
    one_more =
        let e = total_altered register_line (λ (x : Register). length x.targets.items) k (with_target target) t.registers.items r found in
        let l : length r_merged.targets.items ≡ length r.targets.items + 1 = ap length targets_now ∙ length_push r.targets.items target in
        omega arith

    as_many_wait : waiting_count t_merged.registers.items ≡ waiting_count t.registers.items
    as_many_wait =
        let e = total_altered register_line (λ (x : Register). cond (is_waiting x.progress) 1 0) k (with_target target) t.registers.items r found in
        omega arith

    line_merged : LineKept f k (way_of g t k) (queued_of t k) (Some r_merged)
    line_merged =
        let known = kept.lines_kept k in
        let s = awaited_kept f k _ _ _ known r found in
        let l : length r_merged.targets.items ≡ length r.targets.items + 1 = ap length targets_now ∙ length_push r.targets.items target in
        record {
          way_kept = way_of_register f k (way_of g t k) (queued_of t k) (register_of t k) (Some r_merged) known r found;
          queued_kept = known.queued_kept;
          register_kept = (s.0, omega arith, s.2);
          reserved = known.reserved ∙ ap (λ x. is_some (sent_ticket x)) found;
        }

    pub merges : Goal t_merged
    merges = (
      record {
        lines_kept = each_line (λ j. LineKept f j (way_of g t j) (queued_of t j) (register_of t_merged j)) k
            (line_found f k (way_of g t k) (way_of g t k) (queued_of t k) (queued_of t k) (Some r_merged) (register_of t_merged k) refl refl register_now line_merged)
            (λ j n. line_found f j (way_of g t j) (way_of g t j) (queued_of t j) (queued_of t j) (register_of t j) (register_of t_merged j) refl refl (register_stays j n) (kept.lines_kept j));
        own_way = kept.own_way;
        registers_differ = distinct_altered register_line k (with_target target) (λ x. refl) t.registers.items kept.registers_differ;
        queue_differs = kept.queue_differs;
        sent_differ = λ line other sent a b. kept.sent_differ line other sent (sym (sent_stays line) ∙ a) (sym (sent_stays other) ∙ b);
        tickets_differ = rw merged_open (among_distinct in_front behind_it entry differ_among fresh_among);
        few = omega (arith, one_more);
        all_sets = kept.all_sets;
        all_ways = kept.all_ways;
        beyond = kept.beyond;
      },
      record {
        inside = inside;
        fixed = record { lines_stay = refl; bad_stay = λ j. refl; pace_stays = refl };
        after = after_line (level_facts f g t).contents (level_facts f g t_merged).contents k (bytes_asked (f.bad k) ((level_facts f g t).contents k) ask)
            (ap (λ x. bytes_after (f.bad k) (base f g t k) (targets_in x)) register_now
            ∙ ap (bytes_after (f.bad k) (base f g t k)) targets_now
            ∙ bytes_push (f.bad k) (base f g t k) r.targets.items target
            ∙ sym (ap (λ x. bytes_asked (f.bad k) (bytes_after (f.bad k) (base f g t k) (targets_in x)) ask) found))
            (λ j n. ap (λ x. bytes_after (f.bad j) (base f g t j) (targets_in x)) (register_stays j n));
        opens = opened_among (level_facts f g t) (level_facts f g t_merged) in_front behind_it ticket (reply_to (f.bad k) ((level_facts f g t).contents k) ask) (λ u. ap (λ xs. due_in xs u) had_open) (λ u. ap (λ xs. due_in xs u) merged_open) fresh_among
            (let a = one_more in let b = as_many_wait in let c : (f.pace + f.pace + 2) * waiting_count t_merged.registers.items ≡ (f.pace + f.pace + 2) * waiting_count t.registers.items = ap (λ n. (f.pace + f.pace + 2) * n) b in omega arith);
      },
    )

  -- the line has no register, and there is room for one
  module _ (found : register_of t k ≡ None) (empty : way_of g t k ≡ Empty) (few_registers : length t.registers.items ≢ 8) where
    abbrev first : Target
    first = record { ticket = ticket; ask = ask }

    abbrev r_new : Register
    r_new = new_register k first

    abbrev t_missed : Tables
    t_missed = record t { registers = record { items = pushed 8 t.registers.items r_new } }

    registers_now : t_missed.registers.items ≡ t.registers.items ++ (r_new ∷ [])
    registers_now = pushed_room 8 t.registers.items r_new few_registers

    new_is : register_of t_missed k ≡ Some r_new
    new_is = ap (entry_of register_line k) registers_now ∙ push_found register_line t.registers.items r_new found

    old_is : (j : ℕ) → j ≢ k → register_of t_missed j ≡ register_of t j
    old_is j n = ap (entry_of register_line j) registers_now ∙ push_other register_line t.registers.items r_new j n

    abbrev all_open : List Ready
    all_open = open_of f g t

    had_base : (level_facts f g t).contents k ≡ base f g t k
    had_base = ap (λ x. bytes_after (f.bad k) (base f g t k) (targets_in x)) found

    missed_open : open_of f g t_missed ≡ all_open ++ (entry ∷ [])
    missed_open =
        ap (λ rs. t.ready.items ++ dues_of f.bad (base f g t) rs) registers_now
        ∙ ap (λ xs. t.ready.items ++ xs)
        (dues_of_append f.bad (base f g t) t.registers.items (r_new ∷ [])
        ∙ ap (λ bytes. dues_of f.bad (base f g t) t.registers.items ++ (record { ticket = ticket; reply = reply_to (f.bad k) bytes ask } ∷ [])) (sym had_base))
        ∙ sym (append_assoc t.ready.items (dues_of f.bad (base f g t) t.registers.items) (entry ∷ []))

    fresh_behind : entry_of ticket_of ticket (all_open ++ []) ≡ None
    fresh_behind = ap (entry_of ticket_of ticket) (append-nil all_open) ∙ fresh

    one_target : target_count t_missed.registers.items ≡ target_count t.registers.items + 1
    one_target = ap target_count registers_now ∙ total_push (λ (x : Register). length x.targets.items) t.registers.items r_new

    one_waits : waiting_count t_missed.registers.items ≡ waiting_count t.registers.items + 1
    one_waits = ap waiting_count registers_now ∙ total_push (λ (x : Register). cond (is_waiting x.progress) 1 0) t.registers.items r_new

    no_ticket : sent_ticket (register_of t_missed k) ≡ None
    no_ticket = ap sent_ticket new_is

    sent_same : (j : ℕ) → sent_ticket (register_of t_missed j) ≡ sent_ticket (register_of t j)
    sent_same = each_line (λ j. sent_ticket (register_of t_missed j) ≡ sent_ticket (register_of t j)) k (no_ticket ∙ sym (ap sent_ticket found)) (λ j n. ap sent_ticket (old_is j n))

    line_missed : LineKept f k Empty (queued_of t k) (Some r_new)
    line_missed = record { way_kept = tt; queued_kept = (kept.lines_kept k).queued_kept; register_kept = (inside, omega arith, tt); reserved = refl }

    pub misses : Goal t_missed
    misses = (
      record {
        lines_kept = each_line (λ j. LineKept f j (way_of g t j) (queued_of t j) (register_of t_missed j)) k
            (line_found f k Empty (way_of g t k) (queued_of t k) (queued_of t k) (Some r_new) (register_of t_missed k) empty refl new_is line_missed)
            (λ j n. line_found f j (way_of g t j) (way_of g t j) (queued_of t j) (queued_of t j) (register_of t j) (register_of t_missed j) refl refl (old_is j n) (kept.lines_kept j));
        own_way = kept.own_way;
        registers_differ = subst (λ rs. Distinct register_line rs) (sym registers_now) (distinct_push register_line t.registers.items r_new kept.registers_differ found);
        queue_differs = kept.queue_differs;
        sent_differ = λ line other sent a b. kept.sent_differ line other sent (sym (sent_same line) ∙ a) (sym (sent_same other) ∙ b);
        tickets_differ = subst (λ xs. Distinct ticket_of xs) (sym missed_open) (distinct_push ticket_of all_open entry kept.tickets_differ fresh);
        few = omega (arith, one_target);
        all_sets = kept.all_sets;
        all_ways = kept.all_ways;
        beyond = kept.beyond;
      },
      record {
        inside = inside;
        fixed = record { lines_stay = refl; bad_stay = λ j. refl; pace_stays = refl };
        after = after_line (level_facts f g t).contents (level_facts f g t_missed).contents k (bytes_asked (f.bad k) ((level_facts f g t).contents k) ask)
            (ap (λ x. bytes_after (f.bad k) (base f g t k) (targets_in x)) new_is
            ∙ sym (ap (λ bytes. bytes_asked (f.bad k) bytes ask) had_base))
            (λ j n. ap (λ x. bytes_after (f.bad j) (base f g t j) (targets_in x)) (old_is j n));
        opens = opened_among (level_facts f g t) (level_facts f g t_missed) all_open [] ticket (reply_to (f.bad k) ((level_facts f g t).contents k) ask) (λ u. ap (λ xs. due_in xs u) (sym (append-nil all_open))) (λ u. ap (λ xs. due_in xs u) missed_open) fresh_behind
            (let a = one_target in let b = one_waits in let c : (f.pace + f.pace + 2) * waiting_count t_missed.registers.items ≡ (f.pace + f.pace + 2) * (waiting_count t.registers.items + 1) = ap (λ n. (f.pace + f.pace + 2) * n) b in omega arith);
      },
    )

-- where there is a register there is a target
pub some_target : (f : Facts) (g : Geometry) (t : Tables) → Kept f g t → 1 ≤ length t.registers.items → 1 ≤ target_count t.registers.items
some_target f g t kept h = go t.registers.items refl
  where
    go : (rs : List Register) → t.registers.items ≡ rs → 1 ≤ target_count t.registers.items
    go [] e = absurd (let l : length t.registers.items ≡ 0 = ap length e in omega arith)
    go (r ∷ rs) e =
        let found : register_of t r.line ≡ Some r = ap (entry_of register_line r.line) e ∙ (rw (eq-eqb r.line r.line refl) refl) in
        let s = awaited_kept f r.line _ _ _ (kept.lines_kept r.line) r found in
        let some = s.1 in
        let c : target_count t.registers.items ≡ length r.targets.items + target_count rs = ap target_count e in
        omega arith

-- a fact of what becomes of a request, by cases
by_path : (f : Facts) (g : Geometry) (t : Tables) (line : ℕ) → Kept f g t → (P : Option Path → Type 0)
    → (open_count t < 16 → (w : ℕ) → holding line (row t.ways (line % g.sets)) ≡ Some w → P (Some (Hit w)))
    → (open_count t < 16 → (r : Register) → register_of t line ≡ Some r → length r.targets.items ≢ 4 → P (Some Merge))
    → (open_count t < 16 → holding line (row t.ways (line % g.sets)) ≡ None → register_of t line ≡ None → length t.registers.items ≢ 8 → P (Some Miss))
    → (1 ≤ open_count t → P None)
    → P (path t (line % g.sets) line)
by_path f g t line kept P hit merge miss busy = at_room (leb 16 (open_count t)) refl
  where
    at_targets : open_count t < 16 → (r : Register) → register_of t line ≡ Some r → (b : Bool) → eqb (length r.targets.items) 4 ≡ b → P (cond b None (Some Merge))
    at_targets room r e true is =
        busy
        (let l = eqb-true (length r.targets.items) 4 is in
        let w = total_altered register_line (λ (x : Register). length x.targets.items) line (λ x. record x { targets = record { items = [] } }) t.registers.items r e in
        omega arith)
    at_targets room r e false is = merge room r e (eqb-false (length r.targets.items) 4 is)

    at_count : open_count t < 16 → holding line (row t.ways (line % g.sets)) ≡ None → register_of t line ≡ None → (b : Bool) → eqb (length t.registers.items) 8 ≡ b → P (cond b None (Some Miss))
    at_count room none e true is = busy (let l = eqb-true (length t.registers.items) 8 is in let some = some_target f g t kept (omega arith) in omega arith)
    at_count room none e false is = miss room none e (eqb-false (length t.registers.items) 8 is)

    at_register : open_count t < 16 → holding line (row t.ways (line % g.sets)) ≡ None → (x : Option Register) → register_of t line ≡ x → P (path_by x (length t.registers.items))
    at_register room none (Some r) e = at_targets room r e (eqb (length r.targets.items) 4) refl
    at_register room none None e = at_count room none e (eqb (length t.registers.items) 8) refl

    at_way : open_count t < 16 → (x : Option ℕ) → holding line (row t.ways (line % g.sets)) ≡ x → P (path_at x (register_path t line))
    at_way room (Some w) e = hit room w e
    at_way room None e = at_register room e (register_of t line) refl

    at_room : (b : Bool) → leb 16 (open_count t) ≡ b → P (cond b None (path_at (holding line (row t.ways (line % g.sets))) (register_path t line)))
    at_room true is = busy (grind (arith, nat_tests))
    at_room false is = at_way (grind (arith, nat_tests)) (holding line (row t.ways (line % g.sets))) refl

abbrev Done : Facts → Geometry → Tables → ℕ → Ask → ℕ → Tables → Type 0
Done f g t line ask ticket u = Kept f g u × Accepted (level_facts f g t) line ask ticket (level_facts f g u)

-- a request that is taken
pub takes : (f : Facts) (g : Geometry) (t u : Tables) (line : ℕ) (ask : Ask) (ticket : ℕ) → Kept f g t → line < f.lines → Asked t (line % g.sets) line ask (Some ticket) u → Done f g t line ask ticket u
takes f g t u line ask ticket kept inside =
    by_path f g t line kept (λ p. Takes p t (line % g.sets) line ask ticket u → Done f g t line ask ticket u)
    (λ room w e h. hit w (holding_some line (row t.ways (line % g.sets)) w e) room h.0 h.1)
    (λ room r e few h. subst (Done f g t line ask ticket) (sym h.1) (merges f g t line ask ticket inside kept (fresh h.0) room r e few))
    (λ room none e few h. subst (Done f g t line ask ticket) (sym h.1)
    (misses f g t line ask ticket inside kept (fresh h.0) room e (no_way f line _ _ _ (kept.lines_kept line) (holding_none line (row t.ways (line % g.sets)) none) (ap sent_ticket e)) few))
    (λ some h. absurd h)
  where
    fresh : is_open t ticket ≡ false → entry_of ticket_of ticket (open_of f g t) ≡ None
    fresh closed = not_open f g t ticket closed

    hit : (w : ℕ) → (w < length (row t.ways (line % g.sets))) × ((held : CachedLine) × (get_or (row t.ways (line % g.sets)) w Empty ≡ Filled held) × (held.line ≡ line)) → open_count t < 16 → is_open t ticket ≡ false → u ≡ with_request (Hit w) t (line % g.sets) line ask ticket → Done f g t line ask ticket u
    hit w (within, (held, at, is)) room closed e =
        subst (Done f g t line ask ticket) (sym e) (subst (λ x. Done f g t line ask ticket (hit_on x t (line % g.sets) w ticket ask)) (sym at) (hits f g t line ask ticket inside kept (fresh closed) room w held within at is))

-- a request that finds no room finds a ticket open
pub busy_open : (f : Facts) (g : Geometry) (t : Tables) (line : ℕ) → Kept f g t → path t (line % g.sets) line ≡ None → (u : ℕ) × Open (level_facts f g t) u
busy_open f g t line kept busy = some_open (open_of f g t) (omega (arith, length_open f g t, some busy))
  where
    some : path t (line % g.sets) line ≡ None → 1 ≤ open_count t
    some =
        by_path f g t line kept (λ p. p ≡ None → 1 ≤ open_count t)
        (λ room w e is. absurd (let z : ◌≡◌ {A = ℕ} 0 1 = cc in omega arith))
        (λ room r e few is. absurd (let z : ◌≡◌ {A = ℕ} 0 1 = cc in omega arith))
        (λ room none e few is. absurd (let z : ◌≡◌ {A = ℕ} 0 1 = cc in omega arith))
        (λ some is. some)
