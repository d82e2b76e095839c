-- one call of a player over a hierarchy: what was told so far goes on to be so, or the play is over; and what is left to do falls
use Rattle.std.proofs.Common.{◌≡◌, ◌≢◌, ◌⊎◌, inl, inr, leb, ℕ, zero, suc, ◌+◌, ◌-◌, ◌*◌, ◌<◌, ◌≤◌, Bool, true, false, cond, nat_le, List, [], ◌∷◌, ◌++◌, map, length, drop, slice_get, Some, None, Option, Ok, Err, Result, sym, refl, ap, ◌∙◌, subst, arith, eq-eqb}
use Rattle.std.specs.Prelude.{filter, IsPermutation}
use Rattle.std.proofs.lemmas.Grind.{common_steps}
use Rattle.std.specs.Option.{option_map}
use Rattle.std.specs.Result.{result_ok}
use Rattle.std.proofs.lemmas.Bool.{leb-true}
use Rattle.std.proofs.lemmas.List.{append-nil}
use Rattle.hierarchy.specs.Hierarchy.{hierarchy_facts, known_hierarchy, hierarchy_moves}
use Rattle.hierarchy.specs.HierarchyLaws.{hierarchy_laws}
use Rattle.hierarchy.specs.declared.hierarchy.Hierarchy.{Hierarchy}
use Rattle.list.proofs.Entries.{none_some}
use Rattle.memory.specs.Meaning.{Facts}
use Rattle.memory.specs.declared.bad_line.BadLine.{BadLine}
use Rattle.player.specs.Limits.{limited}
use Rattle.player.specs.Lines.{answer_line, refused_line, note_line, end_line}
use Rattle.player.specs.Progress.{used_up, stepped}
use Rattle.player.specs.Session.{PortDoes, StepMade, RedeemDoes, UsesUp, Settles, AsksPort, ItemDoes, EndDoes, FinishDoes, OutcomeDoes, reading_next, PassDoes, ComeDoes, CallDoes, SessionDoes}
use Rattle.player.specs.declared.progress.Progress.{Progress}
use Rattle.player.specs.declared.session.Session.{Session}
use Rattle.playing.proofs.Answered.{told_redeemed, told_loaded, told_stored}
use Rattle.playing.proofs.Owed.{port_left, left_step, left_falls, left_load, left_store, left_load_refused, left_store_refused, left_redeem}
use Rattle.playing.proofs.Records.{accepted_behind, steps_more, length_more}
use Rattle.playing.proofs.Shown.{told_noted, told_passed, told_refused_load, told_refused_store, told_cut, told_step, told_come, told_count, told_not_loaded, told_not_stored}
use Rattle.playing.proofs.Stands.{Opened, behind, due_line, Told}
use Rattle.playing.specs.Agreement.{answers_request, RecordsOf, Lists}
use Rattle.playing.specs.Calls.{with_line, steps_in}
use Rattle.playing.specs.Requests.{at_start, answers_of, accepted_of, refused_by, steps_of}
use Rattle.port.proofs.Calls.{keeps, call_keeps, counts_of}
use Rattle.port.proofs.Logs.{Counts}
use Rattle.port.proofs.Lists.{true_false}
use Rattle.port.specs.Limits.{largest_ration, most_out}
use Rattle.port.specs.Port.{CameBy, PortMoves, port_below, port_numbers}
use Rattle.port.specs.Promise.{accepted, out, come, has, due_to, failed_check, failed_redeem, RefusedBy, MayAsk, May, Promised}
use Rattle.port.specs.Requests.{Verdict, load_verdict, store_verdict, unlawful_code}
use Rattle.port.specs.declared.answer.Redeemed.{Redeemed}
use Rattle.port.specs.declared.event.Event.{Event}
use Rattle.port.specs.declared.event.Event.TheVariants.{Load, Store, Step, Redeem, Come, RationLeft, OutCount}
use Rattle.port.specs.declared.port.Port.{Port}
use Rattle.port.specs.declared.refusal.Refusal.{Refusal}
use Rattle.port.specs.declared.refusal.Refusal.TheVariants.{Unlawful as UnlawfulRequest, RationUsed, TooManyOut, Busy}
use Rattle.port.specs.declared.refusal.Unredeemed.{Unredeemed}
use Rattle.port.specs.declared.request.Unlawful.{Unlawful}
use Rattle.port.specs.declared.request.Unlawful.TheVariants.{Size, Alignment, Range, Value}
use Rattle.trace.proofs.Later.{later_is_reading, later_given, later_refused}
use Rattle.trace.proofs.NumberSpelled.{Bytes}
use Rattle.trace.proofs.Runs.{read_whole}
use Rattle.trace.specs.Decode.{decode}
use Rattle.trace.specs.Encode.{in_limits, is_setup}
use Rattle.trace.specs.Items.{Item, setup, load, store, pass, note}
use Rattle.trace.specs.Parsed.{Parsed, Took, Refuses}
use Rattle.trace.specs.ReadUpTo.{ReadUpTo, further}
use Rattle.trace.specs.Reading.{Outcome, ended, gave, refused, from_offset, reading, reading_later}
use Rattle.trace.specs.Refusal.{refusal_code}
use Rattle.trace.specs.declared.records.Setup.{Setup}
use Rattle.trace.specs.declared.refusal.Refusal as trace_refusal

-- the first of some numbers is one of them
first_has : (numbers : List ℕ) (n : ℕ) → Some n ≡ slice_get numbers 0 → has n numbers ≡ true
first_has [] n e = absurd (let z : ◌≡◌ {A = ℕ} 0 1 = cc in omega arith)
first_has (x ∷ xs) n e =
    let p : n ≡ x = cc in
    subst (λ m. has m (x ∷ xs) ≡ true) (sym p) (rw (eq-eqb x x refl) refl)

-- where there is no first, there is none
none_first : (numbers : List ℕ) → None ≡ slice_get numbers 0 → numbers ≡ []
none_first [] e = refl
none_first (x ∷ xs) e = absurd (let z : ◌≡◌ {A = ℕ} 0 1 = cc in omega arith)

-- no number is out where none is counted
none_counted : (numbers : List ℕ) → 0 ≡ length numbers → numbers ≡ []
none_counted [] e = refl
none_counted (x ∷ xs) e = absurd (omega arith)

-- a count that is limited goes on limited
limited_more : (a b : ℕ) → limited (limited a + b) ≡ limited (a + b)
limited_more a b = omega arith

-- the end is not before the trace's
later_ended : (trace : List ℕ) (at : ℕ) → reading_later trace at ≡ ended → length trace ≤ at
later_ended trace at e = go (nat_le (length trace) at) refl (decode false (drop at trace)) e
  where
    go : (b : Bool) → nat_le (length trace) at ≡ b → (p : Parsed Item) → cond b ended (from_offset trace at p) ≡ ended → length trace ≤ at
    go true is p f = leb-true (length trace) at is
    go false is (Took item rest) f = absurd (let z : ◌≡◌ {A = ℕ} 0 1 = cc in omega arith)
    go false is (Refuses why) f = absurd (let z : ◌≡◌ {A = ℕ} 0 1 = cc in omega arith)

-- how much of a trace is left
abbrev pub left_in : List ℕ → Option ℕ → ℕ
left_in trace None = 0
left_in trace (Some at) = length trace - at

-- 1 before the last line
abbrev pub before_end : Bool → ℕ
before_end true = 0
before_end false = 1

-- the check that refuses a request shows as the refusal of its record, unless the port is only not ready for it
refused_shows : (log : List Event) (verdict : Verdict) (code : ℕ) → RefusedBy (failed_check largest_ration log verdict) (out log) code → code ≢ 21 → code ≢ 23 → refused_by (accepted log) verdict ≡ Some code
refused_shows log (Err why) code by apart free = ap Some (sym by)
refused_shows log (Ok lawful) code by apart free = go (leb largest_ration (accepted log)) (leb most_out (length (out log))) by
  where
    go : (b c : Bool) → RefusedBy (cond b (Some 22) (cond c (Some 21) None)) (out log) code → cond b (Some 22) None ≡ Some code
    go true c e = ap Some (sym e)
    go false true e = absurd (apart e)
    go false false e = absurd (free e.0)

-- where the port is only not ready for a request, some number is out
waits_out : (log : List Event) (verdict : Verdict) (code : ℕ) → RefusedBy (failed_check largest_ration log verdict) (out log) code → (code ≡ 21) ⊎ (code ≡ 23) → 1 ≤ length (out log)
waits_out log (Err why) code by is = absurd (let z = unlawful_below why in go is)
  where
    unlawful_below : (w : Unlawful) → unlawful_code w < 21
    unlawful_below w = grind (arith, common_steps)

    go : (code ≡ 21) ⊎ (code ≡ 23) → ⊥
    go (inl e) = let z = unlawful_below why in omega arith
    go (inr e) = let z = unlawful_below why in omega arith
waits_out log (Ok lawful) code by is = go (leb largest_ration (accepted log)) (leb most_out (length (out log))) refl by is
  where
    go : (b c : Bool) → leb most_out (length (out log)) ≡ c → RefusedBy (cond b (Some 22) (cond c (Some 21) None)) (out log) code → (code ≡ 21) ⊎ (code ≡ 23) → 1 ≤ length (out log)
    go true c f e (inl i) = absurd (omega arith)
    go true c f e (inr i) = absurd (omega arith)
    go false true f e i = let z = leb-true most_out (length (out log)) f in omega arith
    go false false f e i = e.1

-- the number of an unlawful request is that of neither
unlawful_apart : (why : Unlawful) → (unlawful_code why ≢ 21) × (unlawful_code why ≢ 23)
unlawful_apart Size = (λ e. omega arith, λ e. omega arith)
unlawful_apart Alignment = (λ e. omega arith, λ e. omega arith)
unlawful_apart Range = (λ e. omega arith, λ e. omega arith)
unlawful_apart Value = (λ e. omega arith, λ e. omega arith)

-- a pass has no more steps than the longest
short_pass : (steps : ℕ) → in_limits (pass steps) ≡ true → steps ≤ 1000
short_pass steps e = grind (arith, common_steps)

module _ (trace : List ℕ) (bytes : Bytes trace) (head : Setup) (script : List ℕ) (bad : List BadLine) (h : Hierarchy) (opened : Opened head.lines bad (hierarchy_facts h)) where
  abbrev o : Facts
  o = hierarchy_facts h

  -- how far the trace was read, behind its setup
  pub data ReadTo : Option ℕ → List Item → Option trace_refusal.Refusal → Type 0 where
    reaches : {at : ℕ} {items : List Item} → ReadUpTo trace at (setup head script bad ∷ items) → 0 < at → at ≤ length trace → ReadTo (Some at) items None
    stopped : {at : ℕ} {items : List Item} {why : trace_refusal.Refusal} → ReadUpTo trace at (setup head script bad ∷ items) → reading trace at ≡ refused why at → ReadTo None items (Some why)

  -- the events that a port came by, and how they, what was written and how far a play has come stand to the records that were carried out
  pub record At (written : List (List ℕ)) (items : List Item) (cut : Option trace_refusal.Refusal) (p : Progress) (q : Port Hierarchy) : Type 0 where
    pub index : p.index ≡ limited (length items + 1)
    pub log : List Event
    pub came : CameBy known_hierarchy hierarchy_moves h largest_ration log q
    pub told : Told head.lines bad o written items cut log
    pub steps : p.steps ≡ limited (steps_in log)
    pub enough : steps_of items ≤ steps_in log + p.pass

  -- before the last line
  pub record Stands (written : List (List ℕ)) (p : Progress) (q : Port Hierarchy) : Type 0 where
    pub items : List Item
    pub cut : Option trace_refusal.Refusal
    pub read : ReadTo p.next items cut
    pub at : At written items cut p q

  -- the whole listing of the records of the trace
  pub record Over (listing : List (List ℕ)) (q : Port Hierarchy) : Type 0 where
    pub items : List Item
    pub cut : Option trace_refusal.Refusal
    pub records : RecordsOf trace (setup head script bad ∷ items) cut
    pub lists : Lists head.lines bad items cut listing
    pub log : List Event
    pub came : CameBy known_hierarchy hierarchy_moves h largest_ration log q
    pub body : List (List ℕ)
    pub listing_is : listing ≡ body ++ (end_line (accepted log) (limited (steps_in log)) ∷ [])

  -- before the last line, or behind it
  abbrev pub Is : Bool → List (List ℕ) → Progress → Port Hierarchy → Type 0
  Is false written p q = Stands written p q
  Is true written p q = Over written q

  -- what the port has left to do
  abbrev pub owing : Port Hierarchy → ℕ
  owing q = port_left known_hierarchy hierarchy_moves hierarchy_laws h largest_ration opened.idle q

  -- and what the play has
  abbrev pub left_of : Progress → Port Hierarchy → ℕ
  left_of p q = 1001 * left_in trace p.next + p.pass + owing q + before_end p.ended

  -- a call goes on
  pub record Goes (written : List (List ℕ)) (line : Option (List ℕ)) (s t : Session) : Type 0 where
    pub is : Is t.progress.ended (with_line line written) t.progress t.port
    pub less : left_of t.progress t.port < left_of s.progress s.port

  -- a call that goes on to this line and this progress
  goes_to : {written : List (List ℕ)} {line : Option (List ℕ)} {s t : Session} (l : Option (List ℕ)) (p : Progress) → line ≡ l → t.progress ≡ p → Is p.ended (with_line l written) p t.port → left_of p t.port < left_of s.progress s.port → Goes written line s t
  goes_to {written} {line} {s} {t} l p line_is progress is less =
      subst (λ m. Goes written m s t) (sym line_is) (record {
        is = subst (λ x. Is x.ended (with_line l written) x t.port) (sym progress) is;
        less = subst (λ x. left_of x t.port < left_of s.progress s.port) (sym progress) less;
      })

  -- before the last line
  still_going : {written : List (List ℕ)} {q : Port Hierarchy} (p : Progress) → p.ended ≡ false → Stands written p q → Is p.ended written p q
  still_going {written} {q} p e stands = subst (λ b. Is b written p q) (sym e) stands

  -- one call of the port more
  more : (e : Event) (log : List Event) (p q : Port Hierarchy) → CameBy known_hierarchy hierarchy_moves h largest_ration log p → PortMoves known_hierarchy hierarchy_moves e p q → Promised o largest_ration (e ∷ log) × CameBy known_hierarchy hierarchy_moves h largest_ration (e ∷ log) q
  more e log p q came does = call_keeps known_hierarchy hierarchy_moves hierarchy_laws e (port_below p) (port_numbers p) (port_below q) (port_numbers q) does h largest_ration log opened.idle came

  -- what is counted in its events
  counted : (log : List Event) (q : Port Hierarchy) → CameBy known_hierarchy hierarchy_moves h largest_ration log q → Counts log
  counted log q came = counts_of o largest_ration log (keeps known_hierarchy hierarchy_moves hierarchy_laws h largest_ration opened.idle log (port_below q) (port_numbers q) came)

  -- the progress behind a step
  at_step : {written : List (List ℕ)} {items : List Item} {cut : Option trace_refusal.Refusal} {p : Progress} {q r : Port Hierarchy} (left : ℕ) (brought : Option ℕ) → p.pass ≤ suc left → (a : At written items cut p q) → PortMoves known_hierarchy hierarchy_moves (Step brought) q r → At written items cut (stepped (record p { pass = left })) r
  at_step {q = q} {r} left brought one a does =
      let few = a.enough in
      record {
        index = a.index;
        log = Step brought ∷ a.log;
        came = (more (Step brought) a.log q r a.came does).1;
        told = told_step head.lines bad o brought a.told;
        steps = ap (λ n. limited (n + 1)) a.steps ∙ limited_more (steps_in a.log) 1;
        enough = omega arith;
      }

  -- a step of a pass
  pass_goes : {written : List (List ℕ)} {line : Option (List ℕ)} {s t : Session} (left : ℕ) → s.progress.pass ≡ suc left → s.progress.ended ≡ false → Stands written s.progress s.port → (line ≡ None) × StepMade (record s { progress = record s.progress { pass = left } }) t → Goes written line s t
  pass_goes {written} {line} {s} {t} left is going st made =
      let brought = made.1.0.0 in
      let does = made.1.0.1 in
      let p : Progress = stepped (record s.progress { pass = left }) in
      let low = left_step known_hierarchy hierarchy_moves hierarchy_laws h largest_ration opened.idle st.at.log brought s.port t.port st.at.came does in
      goes_to None p made.0 made.1.1
      (still_going p going (record { items = st.items; cut = st.cut; read = st.read; at = at_step left brought (omega arith) st.at does }))
      (omega arith)

  -- a step while numbers are out and no answer has come, made by a session that differs by what the port refused
  wait_goes : {written : List (List ℕ)} {line : Option (List ℕ)} {s t : Session} (d : Session) {items : List Item} {cut : Option trace_refusal.Refusal} → d.progress ≡ s.progress → s.progress.ended ≡ false → s.progress.pass ≡ 0 → ReadTo s.progress.next items cut → (a : At written items cut s.progress d.port) → owing d.port ≤ owing s.port → come a.log ≡ [] → 1 ≤ length (out a.log) → line ≡ None → StepMade d t → Goes written line s t
  wait_goes {written} {line} {s} {t} d {items} {cut} same going none read a less come_none some line_is made =
      let brought = made.0.0 in
      let does = made.0.1 in
      let p : Progress = stepped (record s.progress { pass = s.progress.pass }) in
      let low = left_falls known_hierarchy hierarchy_moves hierarchy_laws h largest_ration opened.idle a.log brought d.port t.port a.came does come_none some in
      goes_to None p line_is (made.1 ∙ ap stepped same)
      (still_going p going (record { items = items; cut = cut; read = read; at = at_step s.progress.pass brought (omega arith) a does }))
      (omega arith)

  -- a number whose answer has come is redeemed
  redeem_goes : {written : List (List ℕ)} {line : Option (List ℕ)} {s t : Session} (number : ℕ) → s.progress.ended ≡ false → (st : Stands written s.progress s.port) → Some number ≡ slice_get (come st.at.log) 0 → RedeemDoes number s line t → Goes written line s t
  redeem_goes {written} {line} {s} {t} number going st first made = go made.0.0 made.0.1 made.0.2
    where
      log : List Event
      log = st.at.log

      counts : Counts log
      counts = counted log s.port st.at.came

      has_come : has number (come log) ≡ true
      has_come = first_has (come log) number first

      is_out : has number (out log) ≡ true
      is_out = counts.come_out number has_come

      passes : failed_redeem log number ≡ None
      passes = rw (is_out, has_come) refl

      go : (r : Result Redeemed Unredeemed) → PortDoes (Redeem number r) s t → line ≡ option_map (answer_line number) (result_ok r) → Goes written line s t
      go (Ok answer) does line_is =
          let m = more (Redeem number (Ok answer)) log s.port t.port st.at.came does in
          let due : due_to o log number ≡ Some answer = m.0.0.1 in
          let low = left_redeem known_hierarchy hierarchy_moves hierarchy_laws h largest_ration opened.idle log number answer s.port t.port st.at.came does in
          goes_to (Some (answer_line number answer)) s.progress line_is made.1
          (still_going s.progress going (record {
            items = st.items;
            cut = st.cut;
            read = st.read;
            at = record {
              index = st.at.index;
              log = Redeem number (Ok answer) ∷ log;
              came = m.1;
              told = told_redeemed head.lines bad o opened log counts number answer is_out due st.at.told;
              steps = st.at.steps;
              enough = st.at.enough;
            };
          }))
          (omega arith)
      go (Err why) does line_is =
          let m = more (Redeem number (Err why)) log s.port t.port st.at.came does in
          absurd (none_some _ (sym passes ∙ m.0.0))

  -- the end: a step while numbers are out, and then the last line
  finish_goes : {written : List (List ℕ)} {line : Option (List ℕ)} {s t : Session} {items : List Item} {cut : Option trace_refusal.Refusal} → s.progress.ended ≡ false → s.progress.pass ≡ 0 → ReadTo s.progress.next items cut → RecordsOf trace (setup head script bad ∷ items) cut → (a : At written items cut s.progress s.port) → come a.log ≡ [] → FinishDoes s line t → Goes written line s t
  finish_goes {written} {line} {s} {t} {items} {cut} going none read records a come_none does = go does.0 does.1 does.2
    where
      go : (count : ℕ) → PortDoes (OutCount count) s s → EndDoes count s line t → Goes written line s t
      go (suc others) counts made =
          let m = more (OutCount (suc others)) a.log s.port s.port a.came counts in
          let out_is : suc others ≡ length (out a.log) = m.0.0 in
          wait_goes s refl going none read (record { index = a.index; log = OutCount (suc others) ∷ a.log; came = m.1; told = told_count head.lines bad o (suc others) a.told; steps = a.steps; enough = a.enough }) (omega arith) come_none (omega arith) made.0 made.1
      go zero counts made =
          let m = more (OutCount zero) a.log s.port s.port a.came counts in
          let none_out : out a.log ≡ [] = none_counted (out a.log) m.0.0 in
          let left = made.0.0 in
          let n = more (RationLeft left) a.log s.port s.port a.came made.0.1 in
          let sums : left + accepted a.log ≡ largest_ration = n.0.0 in
          let taken : largest_ration - left ≡ accepted a.log = omega arith in
          let many : largest_ration - left ≡ accepted_of head.lines bad at_start items = taken ∙ a.told.accepted_is ∙ sym (accepted_behind head.lines bad at_start items) in
          let p : Progress = record s.progress { ended = true } in
          let few = a.enough in
          let steps = a.steps in
          goes_to (Some (end_line (largest_ration - left) s.progress.steps)) p made.0.2 made.2
          (record {
            items = items;
            cut = cut;
            records = records;
            lists = record {
              body = written;
              steps = s.progress.steps;
              listing_is = ap (λ n. written ++ (end_line n s.progress.steps ∷ [])) many;
              answers = subst (λ xs. IsPermutation (answers_of head.lines bad at_start items) xs) (ap (λ ns. filter answers_request written ++ map (due_line o a.log) ns) none_out ∙ append-nil (filter answers_request written)) a.told.answers;
              others = a.told.others;
              enough = omega arith;
            };
            log = a.log;
            came = subst (CameBy known_hierarchy hierarchy_moves h largest_ration a.log) (sym made.1) a.came;
            body = written;
            listing_is = ap (λ n. written ++ (end_line n s.progress.steps ∷ [])) taken ∙ ap (λ n. written ++ (end_line (accepted a.log) n ∷ [])) a.steps;
          })
          (subst (λ q. left_of p q < left_of s.progress s.port) (sym made.1) (ended_less going))
        where
          ended_less : s.progress.ended ≡ false → left_of (record s.progress { ended = true }) s.port < left_of s.progress s.port
          ended_less e = let z : before_end s.progress.ended ≡ 1 = ap before_end e in omega arith

  -- a request of the port: what its record is, what its event is, and what the promise says of both
  record Request (item : Item) (event : Result ℕ Refusal → Event) (verdict : Verdict) : Type 0 where
    may : (log : List Event) (r : Result ℕ Refusal) → May o largest_ration log (event r) → MayAsk largest_ration log verdict r
    told_ok : {written : List (List ℕ)} {items : List Item} {log : List Event} (number : ℕ) → Counts log → number ≡ accepted log + 1 → failed_check largest_ration log verdict ≡ None → Told head.lines bad o written items None log → Told head.lines bad o written (items ++ (item ∷ [])) None (event (Ok number) ∷ log)
    told_not : {written : List (List ℕ)} {items : List Item} {log : List Event} (why : Refusal) → Told head.lines bad o written items None log → Told head.lines bad o written items None (event (Err why) ∷ log)
    told_no : {written : List (List ℕ)} {items : List Item} {log : List Event} (code : ℕ) → refused_by (behind head.lines bad at_start items).accepted verdict ≡ Some code → Told head.lines bad o written items None log → Told head.lines bad o (written ++ (refused_line (limited (length items + 1)) code ∷ [])) (items ++ (item ∷ [])) None log
    come_same : (log : List Event) (why : Refusal) → come (event (Err why) ∷ log) ≡ come log
    out_same : (log : List Event) (why : Refusal) → out (event (Err why) ∷ log) ≡ out log
    steps_same : (log : List Event) (r : Result ℕ Refusal) → steps_in (event r ∷ log) ≡ steps_in log
    asks_none : steps_of (item ∷ []) ≡ 0
    left_ok : (log : List Event) (p q : Port Hierarchy) (r : Result ℕ Refusal) → CameBy known_hierarchy hierarchy_moves h largest_ration log p → PortMoves known_hierarchy hierarchy_moves (event r) p q → owing q ≤ owing p + 2 * o.pace
    left_not : (log : List Event) (p q : Port Hierarchy) (why : Refusal) → CameBy known_hierarchy hierarchy_moves h largest_ration log p → PortMoves known_hierarchy hierarchy_moves (event (Err why)) p q → owing q ≤ owing p

  -- the verdict is the same by the lines of the setup and by those of the hierarchy
  the_load : (size address : ℕ) → Request (load size address) (λ r. Load size address r) (load_verdict head.lines size address)
  the_load size address = record {
    may = λ log r m. subst (λ n. MayAsk largest_ration log (load_verdict n size address) r) opened.lines_are m;
    told_ok = λ {written} {items} {log} number counts is passes told. told_loaded head.lines bad o opened log counts size address number is passes told;
    told_not = λ why told. told_not_loaded head.lines bad o size address why told;
    told_no = λ code is told. told_refused_load head.lines bad o size address code is told;
    come_same = λ log why. refl;
    out_same = λ log why. refl;
    steps_same = λ log r. refl;
    asks_none = refl;
    left_ok = λ log p q r came does. left_load known_hierarchy hierarchy_moves hierarchy_laws h largest_ration opened.idle log size address r p q came does;
    left_not = λ log p q why came does. left_load_refused known_hierarchy hierarchy_moves hierarchy_laws h largest_ration opened.idle log size address why p q came does;
  }

  the_store : (size address value : ℕ) → Request (store size address value) (λ r. Store size address value r) (store_verdict head.lines size address value)
  the_store size address value = record {
    may = λ log r m. subst (λ n. MayAsk largest_ration log (store_verdict n size address value) r) opened.lines_are m;
    told_ok = λ {written} {items} {log} number counts is passes told. told_stored head.lines bad o opened log counts size address value number is passes told;
    told_not = λ why told. told_not_stored head.lines bad o size address value why told;
    told_no = λ code is told. told_refused_store head.lines bad o size address value code is told;
    come_same = λ log why. refl;
    out_same = λ log why. refl;
    steps_same = λ log r. refl;
    asks_none = refl;
    left_ok = λ log p q r came does. left_store known_hierarchy hierarchy_moves hierarchy_laws h largest_ration opened.idle log size address value r p q came does;
    left_not = λ log p q why came does. left_store_refused known_hierarchy hierarchy_moves hierarchy_laws h largest_ration opened.idle log size address value why p q came does;
  }

  -- the record that the trace gives next
  record Next (s : Session) (items : List Item) (item : Item) (to : ℕ) : Type 0 where
    at : ℕ
    next : s.progress.next ≡ Some at
    here : ReadUpTo trace at (setup head script bad ∷ items)
    gives : reading trace at ≡ gave item to
    on : at < to
    inside : to ≤ length trace

  -- it is used up
  next_read : {s : Session} {items : List Item} {item : Item} {to : ℕ} → Next s items item to → ReadTo (Some to) (items ++ (item ∷ [])) None
  next_read n = let z = n.on in reaches (further n.here n.gives) (omega arith) n.inside

  -- and less is left of the trace
  next_left : {s : Session} {items : List Item} {item : Item} {to : ℕ} → Next s items item to → left_in trace (Some to) + 1 ≤ left_in trace s.progress.next
  next_left {s} {to = to} n = let x = n.on in let y = n.inside in let z : left_in trace s.progress.next ≡ length trace - n.at = ap (left_in trace) n.next in omega arith

  -- its index is the next
  index_more : (index : ℕ) (items : List Item) (item : Item) → index ≡ limited (length items + 1) → limited (index + 1) ≡ limited (length (items ++ (item ∷ [])) + 1)
  index_more index items item is = ap (λ n. limited (n + 1)) is ∙ limited_more (length items + 1) 1 ∙ ap (λ n. limited (n + 1)) (sym (length_more items item))

  -- a request that the port was asked
  request_goes : {written : List (List ℕ)} {line : Option (List ℕ)} {s t : Session} {items : List Item} {item : Item} {event : Result ℕ Refusal → Event} {verdict : Verdict} (to : ℕ) → Request item event verdict → s.progress.ended ≡ false → s.progress.pass ≡ 0 → Next s items item to → (a : At written items None s.progress s.port) → come a.log ≡ [] → ReadTo s.progress.next items None → AsksPort event to s line t → Goes written line s t
  request_goes {written} {line} {s} {t} {items} {item} {event} {verdict} to rq not_ended none n a come_none read asks = go asks.0 asks.2 asks.4
    where
      d : Session
      d = asks.1

      same : d.progress ≡ s.progress
      same = asks.3

      counts : Counts a.log
      counts = counted a.log s.port a.came

      steps_all : (r : Result ℕ Refusal) → s.progress.steps ≡ limited (steps_in (event r ∷ a.log))
      steps_all r = a.steps ∙ ap limited (sym (rq.steps_same a.log r))

      enough_all : (r : Result ℕ Refusal) → steps_of (items ++ (item ∷ [])) ≤ steps_in (event r ∷ a.log) + s.progress.pass
      enough_all r = let x = steps_more items item in let y = rq.asks_none in let z = rq.steps_same a.log r in let w = a.enough in omega arith

      used : (l : Option (List ℕ)) (r : Result ℕ Refusal) → line ≡ l → UsesUp to d t → PortDoes (event r) s d → Told head.lines bad o (with_line l written) (items ++ (item ∷ [])) None (event r ∷ a.log) → Goes written line s t
      used l r line_is up does told =
          let m = more (event r) a.log s.port d.port a.came does in
          let p : Progress = used_up to s.progress in
          let more_owed = rq.left_ok a.log s.port d.port r a.came does in
          let pace = opened.pace_is in
          let less = next_left n in
          goes_to l p line_is (up.1 ∙ ap (used_up to) same)
          (still_going p not_ended (record {
            items = items ++ (item ∷ []);
            cut = None;
            read = next_read n;
            at = record {
              index = index_more s.progress.index items item a.index;
              log = event r ∷ a.log;
              came = subst (CameBy known_hierarchy hierarchy_moves h largest_ration (event r ∷ a.log)) (sym up.0) m.1;
              told = told;
              steps = steps_all r;
              enough = enough_all r;
            };
          }))
          (subst (λ q. left_of p q < left_of s.progress s.port) (sym up.0) (omega arith))

      shown : (why : Refusal) (code : ℕ) → PortDoes (event (Err why)) s d → RefusedBy (failed_check largest_ration a.log verdict) (out a.log) code → code ≢ 21 → code ≢ 23 → line ≡ Some (refused_line d.progress.index code) → UsesUp to d t → Goes written line s t
      shown why code does by apart free line_is up =
          let is : refused_by (behind head.lines bad at_start items).accepted verdict ≡ Some code = subst (λ k. refused_by k verdict ≡ Some code) a.told.accepted_is (refused_shows a.log verdict code by apart free) in
          let index_is : d.progress.index ≡ limited (length items + 1) = ap (λ p. p.index) same ∙ a.index in
          used (Some (refused_line (limited (length items + 1)) code)) (Err why) (line_is ∙ ap (λ k. Some (refused_line k code)) index_is) up does (rq.told_not why (rq.told_no code is a.told))

      waited_for : (why : Refusal) → PortDoes (event (Err why)) s d → 1 ≤ length (out a.log) → line ≡ None → StepMade d t → Goes written line s t
      waited_for why does some line_is made =
          let m = more (event (Err why)) a.log s.port d.port a.came does in
          wait_goes d same not_ended none read
          (record { index = a.index; log = event (Err why) ∷ a.log; came = m.1; told = rq.told_not why a.told; steps = steps_all (Err why); enough = (let x = rq.steps_same a.log (Err why) in let y = a.enough in omega arith) })
          (rq.left_not a.log s.port d.port why a.came does)
          (rq.come_same a.log why ∙ come_none)
          (subst (λ ns. 1 ≤ length ns) (sym (rq.out_same a.log why)) some)
          line_is made

      go : (r : Result ℕ Refusal) → PortDoes (event r) s d → Settles to r d line t → Goes written line s t
      go (Ok number) does made =
          let may = rq.may a.log (Ok number) (more (event (Ok number)) a.log s.port d.port a.came does).0.0 in
          used None (Ok number) made.0 made.1 does (rq.told_ok number counts may.1 may.0 a.told)
      go (Err TooManyOut) does made =
          let may = rq.may a.log (Err TooManyOut) (more (event (Err TooManyOut)) a.log s.port d.port a.came does).0.0 in
          waited_for TooManyOut does (waits_out a.log verdict 21 may (inl refl)) made.0 made.1
      go (Err Busy) does made =
          let may = rq.may a.log (Err Busy) (more (event (Err Busy)) a.log s.port d.port a.came does).0.0 in
          waited_for Busy does (waits_out a.log verdict 23 may (inr refl)) made.0 made.1
      go (Err RationUsed) does made =
          let may = rq.may a.log (Err RationUsed) (more (event (Err RationUsed)) a.log s.port d.port a.came does).0.0 in
          shown RationUsed 22 does may (λ e. omega arith) (λ e. omega arith) made.0 made.1
      go (Err (UnlawfulRequest why)) does made =
          let may = rq.may a.log (Err (UnlawfulRequest why)) (more (event (Err (UnlawfulRequest why))) a.log s.port d.port a.came does).0.0 in
          shown (UnlawfulRequest why) (unlawful_code why) does may (unlawful_apart why).0 (unlawful_apart why).1 made.0 made.1

  -- the next record is carried out
  item_goes : {written : List (List ℕ)} {line : Option (List ℕ)} {s t : Session} {items : List Item} (item : Item) (to : ℕ) → in_limits item ≡ true → is_setup item ≡ false → s.progress.ended ≡ false → s.progress.pass ≡ 0 → Next s items item to → (a : At written items None s.progress s.port) → come a.log ≡ [] → ReadTo s.progress.next items None → ItemDoes item to s line t → Goes written line s t
  item_goes (setup other bytes_of_script bad_ones) to limits later not_ended none n a come_none read does = absurd (true_false later)
  item_goes (load size address) to limits later not_ended none n a come_none read does = request_goes to (the_load size address) not_ended none n a come_none read does
  item_goes (store size address value) to limits later not_ended none n a come_none read does = request_goes to (the_store size address value) not_ended none n a come_none read does
  item_goes {s = s} {t} {items} (pass steps) to limits later not_ended none n a come_none read does =
      let p : Progress = record (used_up to s.progress) { pass = steps } in
      let few = short_pass steps limits in
      let less = next_left n in
      let x = steps_more items (pass steps) in
      let y = a.enough in
      goes_to None p does.0 does.2
      (still_going p not_ended (record {
        items = items ++ (pass steps ∷ []);
        cut = None;
        read = next_read n;
        at = record {
          index = index_more s.progress.index items (pass steps) a.index;
          log = a.log;
          came = subst (CameBy known_hierarchy hierarchy_moves h largest_ration a.log) (sym does.1) a.came;
          told = told_passed head.lines bad o steps a.told;
          steps = a.steps;
          enough = omega arith;
        };
      }))
      (subst (λ q. left_of p q < left_of s.progress s.port) (sym does.1) (omega arith))
  item_goes {s = s} {t} {items} (note text) to limits later not_ended none n a come_none read does =
      let p : Progress = used_up to s.progress in
      let less = next_left n in
      let x = steps_more items (note text) in
      let y = a.enough in
      goes_to (Some (note_line text)) p does.0 does.1.1
      (still_going p not_ended (record {
        items = items ++ (note text ∷ []);
        cut = None;
        read = next_read n;
        at = record {
          index = index_more s.progress.index items (note text) a.index;
          log = a.log;
          came = subst (CameBy known_hierarchy hierarchy_moves h largest_ration a.log) (sym does.1.0) a.came;
          told = told_noted head.lines bad o text a.told;
          steps = a.steps;
          enough = omega arith;
        };
      }))
      (subst (λ q. left_of p q < left_of s.progress s.port) (sym does.1.0) (omega arith))

  -- what the reader says next is carried out
  outcome_goes : {written : List (List ℕ)} {line : Option (List ℕ)} {s t : Session} {items : List Item} {cut : Option trace_refusal.Refusal} (next : Option ℕ) → s.progress.next ≡ next → ReadTo next items cut → s.progress.ended ≡ false → s.progress.pass ≡ 0 → (a : At written items cut s.progress s.port) → come a.log ≡ [] → OutcomeDoes (reading_next trace next) s line t → Goes written line s t
  outcome_goes {s = s} None is (stopped {at} {items} {why} here refuses) not_ended none a come_none does =
      finish_goes not_ended none (subst (λ n. ReadTo n items (Some why)) (sym is) (stopped here refuses)) (at, here, refuses) a come_none does
  outcome_goes {written} {line} {s} {t} (Some at) is (reaches {items = items} here later inside) not_ended none a come_none does = go (reading_later trace at) refl does
    where
      same : reading_later trace at ≡ reading trace at
      same = later_is_reading trace at later inside

      read : ReadTo s.progress.next items None
      read = subst (λ n. ReadTo n items None) (sym is) (reaches here later inside)

      go : (r : Outcome) → reading_later trace at ≡ r → OutcomeDoes r s line t → Goes written line s t
      go ended e made =
          let all : at ≡ length trace = (let z = later_ended trace at e in omega arith) in
          finish_goes not_ended none read (read_whole trace bytes here (sym same ∙ e) all) a come_none made
      go (gave item to) e made =
          let g = later_given trace bytes at to item e in
          item_goes item to g.2 g.3 not_ended none (record { at = at; next = is; here = here; gives = sym same ∙ e; on = g.0; inside = g.1 }) a come_none read made
      go (refused why from) e made =
          let r = later_refused trace at from why e in
          let p : Progress = record s.progress { next = None } in
          let refuses : reading trace at ≡ refused why at = sym same ∙ e ∙ ap (refused why) r.0 in
          let left_is : left_in trace s.progress.next ≡ length trace - at = ap (left_in trace) is in
          let before_its_end = r.1 in
          goes_to (Some (refused_line (limited (length items + 1)) (refusal_code why))) p (made.0 ∙ ap (λ k. Some (refused_line k (refusal_code why))) a.index) made.2
          (still_going p not_ended (record {
            items = items;
            cut = Some why;
            read = stopped here refuses;
            at = record { index = a.index; log = a.log; came = subst (CameBy known_hierarchy hierarchy_moves h largest_ration a.log) (sym made.1) a.came; told = told_cut head.lines bad o why a.told; steps = a.steps; enough = a.enough };
          }))
          (subst (λ q. left_of p q < left_of s.progress s.port) (sym made.1) (omega arith))

  -- one call before the last line
  pub session_goes : {written : List (List ℕ)} {line : Option (List ℕ)} {s t : Session} → s.progress.ended ≡ false → Stands written s.progress s.port → SessionDoes trace s line t → Goes written line s t
  session_goes {written} {line} {s} {t} not_ended st does = go called.0 called.1 called.2
    where
      called : CallDoes trace false s line t
      called = subst (λ b. CallDoes trace b s line t) not_ended does

      -- the session once the port told which number has come
      asked : (told : Option ℕ) → PortDoes (Come told) s s → At written st.items st.cut s.progress s.port
      asked told comes = record {
        index = st.at.index;
        log = Come told ∷ st.at.log;
        came = (more (Come told) st.at.log s.port s.port st.at.came comes).1;
        told = told_come head.lines bad o told st.at.told;
        steps = st.at.steps;
        enough = st.at.enough;
      }

      passes : PortDoes (Come None) s s → (pass : ℕ) → s.progress.pass ≡ pass → PassDoes trace pass s line t → Goes written line s t
      passes comes (suc left) is made = pass_goes left is not_ended (record { items = st.items; cut = st.cut; read = st.read; at = asked None comes }) made
      passes comes zero is made =
          let first = (more (Come None) st.at.log s.port s.port st.at.came comes).0.0 in
          outcome_goes s.progress.next refl st.read not_ended is (asked None comes) (none_first (come st.at.log) first) made

      go : (told : Option ℕ) → PortDoes (Come told) s s → ComeDoes trace told s line t → Goes written line s t
      go (Some number) comes made =
          let first = (more (Come (Some number)) st.at.log s.port s.port st.at.came comes).0.0 in
          redeem_goes number not_ended (record { items = st.items; cut = st.cut; read = st.read; at = asked (Some number) comes }) first made
      go None comes made = passes comes s.progress.pass refl made
