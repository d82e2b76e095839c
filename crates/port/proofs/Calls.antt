-- every call of a port keeps its promise, whatever was called before
use Rattle.std.proofs.Common.{◌≡◌, ℕ, ◌+◌, ◌*◌, ◌/◌, ◌%◌, ◌<◌, ◌≤◌, Bool, true, false, cond, eqb, leb, is_none, ◌&&◌, List, [], ◌∷◌, ◌++◌, length, replicate, is_some, slice_get, slice_index, Some, None, Option, Result, Ok, Err, sym, refl, ap, ◌∙◌, subst, arith, eqb-true, leb-true, leb-false, eq-eqb}
use Rattle.std.specs.Prelude.{find}
use Rattle.std.specs.Option.{option_map}
use Rattle.std.proofs.lemmas.Bool.{eqb-false}
use Rattle.line.specs.Size.{line_size}
use Rattle.line.specs.Values.{value_mask, value_bytes}
use Rattle.list.proofs.Entries.{none_some, found_is_entry, found_none}
use Rattle.memory.specs.Gather.{facts}
use Rattle.memory.specs.Laws.{Laws}
use Rattle.memory.specs.Meaning.{Facts, Well, Fixed, Open, Refused, Unchanged, Answered, Shown, StepMeans, Idle}
use Rattle.memory.specs.Replies.{read_due, write_due}
use Rattle.memory.specs.declared.memory.Memory.{Ghosts}
use Rattle.memory.specs.declared.refusal.Refusal as memory_refusal
use Rattle.memory.specs.declared.refusal.Refusal.TheVariants as memory_refuses
use Rattle.memory.specs.declared.replies.Answer.{Answer}
use Rattle.memory.specs.declared.replies.Reply.{Reply}
use Rattle.memory.specs.declared.state.State as state
use Rattle.port.proofs.Bytes.{flat_stored, load_shown, store_shown}
use Rattle.port.proofs.Lists.{has_some}
use Rattle.port.proofs.Logs.{Counts, no_counts, counts_after}
use Rattle.port.proofs.Fitting.{entry_out, none_out, out_many, shows, waits, all_come, Quiet, still, Accepts, Room, room, accept, was_waiting, was_out, answer, redeem}
use Rattle.port.specs.Answers.{load_shows, store_shows}
use Rattle.port.proofs.Fits.{shown, Fits, Reached}
use Rattle.port.specs.Limits.{most_out}
use Rattle.port.specs.Moves.{Asks, LoadAsks, StoreAsks, Loads, Stores, Steps, Moves, Runs}
use Rattle.port.specs.Numbers.{new_numbers, counted_ration, out_number, refusal_of, with_given, waits_under, number_for, held_for, answered_number, held, without_number, Redeems}
use Rattle.port.specs.Promise.{flat, due_to, fault_at, value_from, accepted, waited, out, failed_check, RefusedBy, MayAsk, May, Sound, Promised}
use Rattle.port.specs.Refusals.{refusal_code}
use Rattle.port.specs.Requests.{Verdict, load_verdict, store_verdict}
use Rattle.port.specs.declared.answer.Asked.{Asked}
use Rattle.port.specs.declared.answer.Asked.TheVariants as asked
use Rattle.port.specs.declared.answer.Redeemed.{Redeemed}
use Rattle.port.specs.declared.event.Event.{Event}
use Rattle.port.specs.declared.event.Event.TheVariants.{Load, Store, Step, Redeem, Come, Size, RationLeft, OutCount}
use Rattle.port.specs.declared.numbers.NumberOut.{NumberOut}
use Rattle.port.specs.declared.numbers.Numbers.{Numbers}
use Rattle.port.specs.declared.refusal.Refusal.{Refusal}
use Rattle.port.specs.declared.refusal.Refusal.TheVariants.{Unlawful, RationUsed, TooManyOut, Busy}
use Rattle.port.specs.declared.refusal.Unredeemed.{Unredeemed}
use Rattle.port.specs.declared.refusal.Unredeemed.TheVariants.{NotOut, NotCome}

-- what holds of the counts of events that keep the promise
pub counts_of : (o : Facts) (ration : ℕ) (log : List Event) → Promised o ration log → Counts log
counts_of o ration [] promised = no_counts
counts_of o ration (e ∷ log) promised = counts_after o ration log e (counts_of o ration log promised.2) promised.0

-- one event more
finish : (o : Facts) (ration : ℕ) (log : List Event) (e : Event) (g : Facts) (m : Numbers) → May o ration log e → Promised o ration log → Well g → Fits o ration (e ∷ log) g m → Reached o ration (e ∷ log) g m
finish o ration log e g m may promised well fits =
    let c : Counts (e ∷ log) = counts_after o ration log e (counts_of o ration log promised) may in
    let sound : Sound o (e ∷ log) = record { sums = c.sums; once = c.once; come_out = c.come_out; in_time = all_come o ration (e ∷ log) g m fits well } in
    record { promised = (may, sound, promised); fits = fits }

-- a port that was opened
begins : (f : Facts) (ration : ℕ) → Idle f → Reached f (counted_ration ration) [] f (new_numbers ration)
begins f ration idle =
    let closed : (t : ℕ) → Open f t → ⊥ = (λ t op. let z : is_some (f.due t) ≡ false = ap is_some (idle.none_open t) in let y : ◌≡◌ {A = ℕ} 0 1 = cc in omega arith) in
    let fits : Fits f (counted_ration ration) [] f (new_numbers ration) = record {
      fixed = record { lines_stay = refl; bad_stay = λ k. refl; pace_stays = refl };
      flat_is = λ line i l j.
          let q : (line_size * line + i) / line_size ≡ line = omega arith in
          let r : (line_size * line + i) % line_size ≡ i = omega arith in
          rw (q, r) refl;
      ration_is = refl;
      given_is = refl;
      within = omega arith;
      out_is = refl;
      come_is = refl;
      differ = tt;
      few = omega arith;
      stands = λ u x is. absurd (none_some x is);
      apart = λ u v x y is none isy noney same. absurd (none_some x is);
      all = λ t op. absurd (closed t op);
      most = let z = idle.none_owed in omega arith;
      paid = λ t op. absurd (closed t op);
    } in
    record { promised = tt; fits = fits }

fixed_same : (f : Facts) → Fixed f f
fixed_same f = record { lines_stay = refl; bad_stay = λ k. refl; pace_stays = refl }

module _ (o : Facts) (log : List Event) where
  quiet_load : (size address : ℕ) (why : Refusal) → Quiet o (Load size address (Err why)) log
  quiet_load size address why = record { flat_same = λ a. refl; due_same = λ u. refl; accepted_same = omega arith; out_same = refl; come_same = refl }

  quiet_store : (size address value : ℕ) (why : Refusal) → Quiet o (Store size address value (Err why)) log
  quiet_store size address value why = record { flat_same = λ a. refl; due_same = λ u. refl; accepted_same = omega arith; out_same = refl; come_same = refl }

  quiet_step : Quiet o (Step None) log
  quiet_step = record { flat_same = λ a. refl; due_same = λ u. refl; accepted_same = omega arith; out_same = refl; come_same = refl }

  quiet_redeem : (number : ℕ) (why : Unredeemed) → Quiet o (Redeem number (Err why)) log
  quiet_redeem number why = record { flat_same = λ a. refl; due_same = λ u. refl; accepted_same = omega arith; out_same = refl; come_same = refl }

  quiet_come : (r : Option ℕ) → Quiet o (Come r) log
  quiet_come r = record { flat_same = λ a. refl; due_same = λ u. refl; accepted_same = omega arith; out_same = refl; come_same = refl }

  quiet_size : (r : ℕ) → Quiet o (Size r) log
  quiet_size r = record { flat_same = λ a. refl; due_same = λ u. refl; accepted_same = omega arith; out_same = refl; come_same = refl }

  quiet_left : (r : ℕ) → Quiet o (RationLeft r) log
  quiet_left r = record { flat_same = λ a. refl; due_same = λ u. refl; accepted_same = omega arith; out_same = refl; come_same = refl }

  quiet_count : (r : ℕ) → Quiet o (OutCount r) log
  quiet_count r = record { flat_same = λ a. refl; due_same = λ u. refl; accepted_same = omega arith; out_same = refl; come_same = refl }

  -- an accepted load, and an accepted store
  accepts_load : (size address number : ℕ) → number ≡ accepted log + 1 → Accepts o (load_shows (fault_at o address) (value_from (flat o log) address size)) (Load size address (Ok number)) log
  accepts_load size address number is = record {
    accepted_more = refl;
    waited_none = refl;
    due_more = λ u. ap (λ k. cond (eqb u k) (Some (load_shows (fault_at o address) (value_from (flat o log) address size))) (due_to o log u)) is;
    out_more = ap (λ k. out log ++ (k ∷ [])) is;
    come_same = refl;
  }

  accepts_store : (size address value number : ℕ) → number ≡ accepted log + 1 → Accepts o (store_shows (fault_at o address)) (Store size address value (Ok number)) log
  accepts_store size address value number is = record {
    accepted_more = refl;
    waited_none = refl;
    due_more = λ u. ap (λ k. cond (eqb u k) (Some (store_shows (fault_at o address))) (due_to o log u)) is;
    out_more = ap (λ k. out log ++ (k ∷ [])) is;
    come_same = refl;
  }

at_limit : (l : ℕ) → l ≤ most_out → leb most_out l ≡ eqb l most_out
at_limit l few = go (leb most_out l) refl (eqb l most_out) refl
  where
    go : (b : Bool) → leb most_out l ≡ b → (c : Bool) → eqb l most_out ≡ c → b ≡ c
    go true e true f = refl
    go false e false f = refl
    go true e false f = absurd (let z = leb-true most_out l e in eqb-false l most_out f (omega arith))
    go false e true f = absurd (let z = leb-false most_out l e in let y = eqb-true l most_out f in omega arith)

-- the first check that fails is the one that the numbers refuse by
checks_are : (o : Facts) (ration : ℕ) (log : List Event) (f : Facts) (n : Numbers) → Fits o ration log f n → failed_check ration log (Ok tt) ≡ option_map refusal_code (refusal_of n)
checks_are o ration log f n h =
    let used : leb ration (accepted log) ≡ leb n.ration n.given = ap (λ r. leb r (accepted log)) (sym h.ration_is) ∙ ap (leb n.ration) (sym h.given_is) in
    let full : leb most_out (length (out log)) ≡ eqb (length n.out.items) most_out = ap (leb most_out) (sym (out_many o ration log f n h)) ∙ at_limit (length n.out.items) h.few in
    rw (used, full) (codes (leb n.ration n.given) (eqb (length n.out.items) most_out))
  where
    codes : (b c : Bool) → cond b (Some 22) (cond c (Some 21) None) ≡ option_map refusal_code (cond b (Some RationUsed) (cond c (Some TooManyOut) None))
    codes true c = refl
    codes false true = refl
    codes false false = refl

-- some number is out while a ticket is open
open_out : (o : Facts) (ration : ℕ) (log : List Event) (f : Facts) (n : Numbers) → Fits o ration log f n → (t : ℕ) → Open f t → 1 ≤ length (out log)
open_out o ration log f n h t op =
    let w = h.all t op in
    has_some (out log) w.0 (entry_out o ration log f n h w.0 w.1 w.2)

module _ {S : Type 0} (st : state.Ghosts S) (k : Ghosts S) (laws : Laws (facts st) k.reads k.writes k.steps) (o : Facts) (ration : ℕ) (log : List Event) (b : S) (n : Numbers) (before : Reached o ration log (facts st b) n) where
  abbrev Goes : Event → S → Numbers → Type 0
  Goes e c m = Reached o ration (e ∷ log) (facts st c) m

  abbrev f : Facts
  f = facts st b

  kept : Promised o ration log
  kept = before.promised

  fits : Fits o ration log f n
  fits = before.fits

  counts : Counts log
  counts = counts_of o ration log kept

  -- an event in which nothing changed
  unmoved : (e : Event) (c : S) (m : Numbers) → Quiet o e log → waited (e ∷ log) ≡ waited log → May o ration log e → c ≡ b → m ≡ n → Goes e c m
  unmoved e c m quiet same may below numbers =
      subst (λ x. Goes e x m) (sym below)
      (subst (λ v. Goes e b v) (sym numbers)
      (finish o ration log e f n may kept (laws.well b)
      (still o ration log f f n e quiet fits (fixed_same f) (λ line. refl) (λ u. refl) (omega arith) (λ t op. omega arith))))

  -- one in which no fact of the memory changed
  unchanged : (e : Event) (c : S) (m : Numbers) → Quiet o e log → waited (e ∷ log) ≡ waited log → May o ration log e → Unchanged f (facts st c) → m ≡ n → Goes e c m
  unchanged e c m quiet same may u numbers =
      let z = u.owed_stays in
      subst (λ v. Goes e c v) (sym numbers)
      (finish o ration log e (facts st c) n may kept (laws.well c)
      (still o ration log f (facts st c) n e quiet fits u.fixed u.contents_stay u.due_stays (omega arith) (λ t op. omega arith)))

  refused_by : (verdict : Verdict) (why : Refusal) → verdict ≡ Ok tt → refusal_of n ≡ Some why → MayAsk ration log verdict (Err why)
  refused_by verdict why ok is =
      let e : failed_check ration log verdict ≡ Some (refusal_code why) = ap (failed_check ration log) ok ∙ checks_are o ration log f n fits ∙ ap (option_map refusal_code) is in
      subst (λ q. RefusedBy q (out log) (refusal_code why)) (sym e) refl

  -- a request, by what it is to the memory and to flat memory
  module _ (verdict : Verdict) (asks : Asked → Type 0) (goes : Result ℕ memory_refusal.Refusal → S → Type 0) (event : Result ℕ Refusal → Event) (line : ℕ) (quiet : (why : Refusal) → Quiet o (event (Err why)) log) (waits_on : (why : Refusal) → waited (event (Err why) ∷ log) ≡ waited log) (may_be : (r : Result ℕ Refusal) → MayAsk ration log verdict r → May o ration log (event r)) (busy : (c : S) → goes (Err memory_refuses.Busy) c → Refused f line memory_refuses.Busy (facts st c)) (taken : (c : S) (ticket number : ℕ) (a : Asked) → verdict ≡ Ok tt → goes (Ok ticket) c → asks a → number ≡ accepted log + 1 → Room n → Fits o ration (event (Ok number) ∷ log) (facts st c) (with_given ticket a n)) where
    asks_keep : (r : Result ℕ Refusal) (c : S) (m : Numbers) → Asks verdict asks goes b n r c m → Goes (event r) c m
    asks_keep (Ok number) c m p =
        let is : number ≡ accepted log + 1 = p.2 ∙ ap (λ j. j + 1) fits.given_is in
        let may : May o ration log (event (Ok number)) = may_be (Ok number) (ap (failed_check ration log) p.0 ∙ checks_are o ration log f n fits ∙ ap (option_map refusal_code) p.1, is) in
        subst (λ v. Goes (event (Ok number)) c v) (sym p.3.4)
        (finish o ration log (event (Ok number)) (facts st c) (with_given p.3.0 p.3.1 n) may kept (laws.well c) (taken c p.3.0 number p.3.1 p.0 p.3.2 p.3.3 is (room n p.1)))
    asks_keep (Err (Unlawful why)) c m p =
        let may : MayAsk ration log verdict (Err (Unlawful why)) = rw p.0 refl in
        unmoved (event (Err (Unlawful why))) c m (quiet (Unlawful why)) (waits_on (Unlawful why)) (may_be (Err (Unlawful why)) may) p.1 p.2
    asks_keep (Err RationUsed) c m p =
        unmoved (event (Err RationUsed)) c m (quiet RationUsed) (waits_on RationUsed) (may_be (Err RationUsed) (refused_by verdict RationUsed p.0 p.1)) p.2 p.3
    asks_keep (Err TooManyOut) c m p =
        unmoved (event (Err TooManyOut)) c m (quiet TooManyOut) (waits_on TooManyOut) (may_be (Err TooManyOut) (refused_by verdict TooManyOut p.0 p.1)) p.2 p.3
    asks_keep (Err Busy) c m p =
        let r = busy c p.2 in
        let e : failed_check ration log verdict ≡ None = ap (failed_check ration log) p.0 ∙ checks_are o ration log f n fits ∙ ap (option_map refusal_code) p.1 in
        let may : MayAsk ration log verdict (Err Busy) = subst (λ q. RefusedBy q (out log) 23) (sym e) (refl, open_out o ration log f n fits r.1.0 r.1.1) in
        unchanged (event (Err Busy)) c m (quiet Busy) (waits_on Busy) (may_be (Err Busy) may) r.2 p.3

  lines_same : st.lines b ≡ o.lines
  lines_same = fits.fixed.lines_stay

  -- every line has its bytes
  whole : (line : ℕ) → line < o.lines → length (f.contents line) ≡ line_size
  whole line l = (laws.well b).whole line (subst (λ j. line < j) (sym lines_same) l)

  loads_keep : (size address : ℕ) (r : Result ℕ Refusal) (c : S) (m : Numbers) → Loads st k b n size address r c m → Goes (Load size address r) c m
  loads_keep size address =
      asks_keep (load_verdict (st.lines b) size address) (LoadAsks size address) (λ s t. k.reads b (address / line_size) s t) (Load size address) (address / line_size)
      (quiet_load o log size address) (λ why. refl) (λ r may. subst (λ j. MayAsk ration log (load_verdict j size address) r) lines_same may)
      (λ c goes. laws.reading b c (address / line_size) (Err memory_refuses.Busy) goes) taken
    where
      taken : (c : S) (ticket number : ℕ) (a : Asked) → load_verdict (st.lines b) size address ≡ Ok tt → k.reads b (address / line_size) (Ok ticket) c → LoadAsks size address a → number ≡ accepted log + 1 → Room n → Fits o ration (Load size address (Ok number) ∷ log) (facts st c) (with_given ticket a n)
      taken c ticket number asked.Store ok goes asks is space = absurd asks
      taken c ticket number (asked.Load span) ok goes asks is space =
          let l = laws.reading b c (address / line_size) (Ok ticket) goes in
          let lawful : load_verdict o.lines size address ≡ Ok tt = ap (λ j. load_verdict j size address) (sym lines_same) ∙ ok in
          accept o ration log f (facts st c) n (Load size address (Ok number)) ticket (asked.Load span) (read_due (f.bad (address / line_size)) (f.contents (address / line_size))) (load_shows (fault_at o address) (value_from (flat o log) address size))
          (accepts_load o log size address number is) l.opens (load_shown o f log fits.fixed fits.flat_is whole size address span lawful asks) counts space fits l.fixed
          (λ line i inside j. ap (λ bytes. slice_index bytes i) (l.contents_stay line) ∙ fits.flat_is line i inside j)

  stores_keep : (size address value : ℕ) (r : Result ℕ Refusal) (c : S) (m : Numbers) → Stores st k b n size address value r c m → Goes (Store size address value r) c m
  stores_keep size address value =
      asks_keep (store_verdict (st.lines b) size address value) StoreAsks (λ s t. k.writes b (address / line_size) (value_mask (address % line_size) size) (value_bytes (address % line_size) size value) s t) (Store size address value) (address / line_size)
      (quiet_store o log size address value) (λ why. refl) (λ r may. subst (λ j. MayAsk ration log (store_verdict j size address value) r) lines_same may)
      (λ c goes. laws.writing b c (address / line_size) (value_mask (address % line_size) size) (value_bytes (address % line_size) size value) (Err memory_refuses.Busy) goes) taken
    where
      taken : (c : S) (ticket number : ℕ) (a : Asked) → store_verdict (st.lines b) size address value ≡ Ok tt → k.writes b (address / line_size) (value_mask (address % line_size) size) (value_bytes (address % line_size) size value) (Ok ticket) c → StoreAsks a → number ≡ accepted log + 1 → Room n → Fits o ration (Store size address value (Ok number) ∷ log) (facts st c) (with_given ticket a n)
      taken c ticket number a ok goes asks is space =
          let l = laws.writing b c (address / line_size) (value_mask (address % line_size) size) (value_bytes (address % line_size) size value) (Ok ticket) goes in
          let lawful : store_verdict o.lines size address value ≡ Ok tt = ap (λ j. store_verdict j size address value) (sym lines_same) ∙ ok in
          accept o ration log f (facts st c) n (Store size address value (Ok number)) ticket a (write_due (f.bad (address / line_size))) (store_shows (fault_at o address))
          (accepts_store o log size address value number is) l.opens (ap (λ z. shown z (write_due (f.bad (address / line_size)))) asks ∙ store_shown o f log fits.fixed fits.flat_is whole address) counts space fits l.fixed
          (λ line i inside j. ap (λ bytes. slice_index bytes i) (l.laid_on line) ∙ flat_stored o f log fits.fixed fits.flat_is whole size address value number lawful line i inside j)

  -- the memory below answers
  answered_keep : (c : S) (lent bytes : List ℕ) (got : Answer) → Answered f lent got (facts st c) bytes → Goes (Step (number_for got.ticket n.out.items)) c (held_for (number_for got.ticket n.out.items) got.status bytes n)
  answered_keep c lent bytes got s = go (find (waits_under got.ticket) n.out.items) refl
    where
      was_open : (d : Option Reply) → f.due got.ticket ≡ d → Shown d got lent bytes → Open f got.ticket
      was_open None e t = absurd t
      was_open (Some reply) e t = ap is_some e

      waits_is : (x : NumberOut) (r : Option Redeemed) → x.answer ≡ r → is_none r && eqb x.ticket got.ticket ≡ true → (x.answer ≡ None) × (x.ticket ≡ got.ticket)
      waits_is x None t e = (t, eqb-true x.ticket got.ticket e)
      waits_is x (Some a) t e = absurd (let z : ◌≡◌ {A = ℕ} 0 1 = cc in omega arith)

      go : (q : Option NumberOut) → find (waits_under got.ticket) n.out.items ≡ q → Goes (Step (option_map out_number q)) c (held_for (option_map out_number q) got.status bytes n)
      go None e =
          let w = fits.all got.ticket (was_open (f.due got.ticket) refl s.shown) in
          let no : waits_under got.ticket w.1 ≡ false = found_none out_number (waits_under got.ticket) n.out.items e w.0 w.1 w.2 in
          let yes : waits_under got.ticket w.1 ≡ true = ap (λ r. is_none r && eqb w.1.ticket got.ticket) w.3 ∙ eq-eqb w.1.ticket got.ticket w.4 in
          absurd (let z : ◌≡◌ {A = ℕ} 0 1 = cc in omega arith)
      go (Some x) e =
          let own = found_is_entry out_number (waits_under got.ticket) n.out.items x fits.differ e in
          let w = waits_is x x.answer refl own.0 in
          finish o ration log (Step (Some x.number)) (facts st c) (held_for (Some x.number) got.status bytes n)
          (was_out o ration log f (facts st c) n lent bytes got x.number x own.1 w.0 w.1 counts s fits, was_waiting o ration log f (facts st c) n lent bytes got x.number x own.1 w.0 w.1 counts s fits)
          kept (laws.well c)
          (answer o ration log f (facts st c) n lent bytes got x.number x own.1 w.0 w.1 counts s fits)

  steps_keep : (r : Option ℕ) (c : S) (m : Numbers) → Steps st k b n r c m → Goes (Step r) c m
  steps_keep r c m p = subst (λ q. Goes (Step q) c m) (sym p.3) (subst (λ v. Goes (Step (answered_number p.0 n)) c v) (sym p.4) (go p.0 (laws.stepping b c (replicate line_size 0) p.1 p.0 p.2)))
    where
      go : (got : Option Answer) → StepMeans f (replicate line_size 0) got (facts st c) p.1 → Goes (Step (answered_number got n)) c (held got p.1 n)
      go None l =
          finish o ration log (Step None) (facts st c) n tt kept (laws.well c)
          (still o ration log f (facts st c) n (Step None) (quiet_step o log) fits l.fixed l.contents_stay l.due_stays l.not_raised (λ t op. let z = l.lowered t op in omega arith))
      go (Some got) l = answered_keep c (replicate line_size 0) p.1 got l

  redeems_keep : (number : ℕ) (r : Result Redeemed Unredeemed) (c : S) (m : Numbers) → Redeems number n r m → c ≡ b → Goes (Redeem number r) c m
  redeems_keep number (Ok reply) c m p below =
      let x = p.0 in
      let s = shows o ration log f n fits number x.0 reply x.1 x.2 in
      let is_out = entry_out o ration log f n fits number x.0 x.1 in
      let may : May o ration log (Redeem number (Ok reply)) = (rw (is_out, s.1) refl, s.0) in
      subst (λ y. Goes (Redeem number (Ok reply)) y m) (sym below)
      (subst (λ v. Goes (Redeem number (Ok reply)) b v) (sym p.1)
      (finish o ration log (Redeem number (Ok reply)) f (without_number number n) may kept (laws.well b)
      (redeem o ration log f n number x.0 reply x.1 x.2 counts fits)))
  redeems_keep number (Err NotOut) c m p below =
      let is_out = none_out o ration log f n fits number p.0 in
      unmoved (Redeem number (Err NotOut)) c m (quiet_redeem o log number NotOut) refl (rw is_out refl) below p.1
  redeems_keep number (Err NotCome) c m p below =
      let x = p.0 in
      let is_out = entry_out o ration log f n fits number x.0 x.1 in
      let late = (waits o ration log f n fits number x.0 x.1 x.2).1 in
      unmoved (Redeem number (Err NotCome)) c m (quiet_redeem o log number NotCome) refl (rw (is_out, late) refl) below p.1

  -- every call goes on from there
  moves_keep : (e : Event) (c : S) (m : Numbers) → Moves st k e b n c m → Goes e c m
  moves_keep (Load size address r) c m p = loads_keep size address r c m p
  moves_keep (Store size address value r) c m p = stores_keep size address value r c m p
  moves_keep (Step r) c m p = steps_keep r c m p
  moves_keep (Redeem number r) c m p = redeems_keep number r c m p.0 p.1
  moves_keep (Come r) c m p = unmoved (Come r) c m (quiet_come o log r) refl (p.0 ∙ ap (λ xs. slice_get xs 0) fits.come_is) p.1 p.2
  moves_keep (Size r) c m p = unmoved (Size r) c m (quiet_size o log r) refl (p.0 ∙ lines_same) p.1 p.2
  moves_keep (RationLeft r) c m p =
      let is = p.0 in
      let w = fits.within in
      let x = fits.ration_is in
      let y = fits.given_is in
      unmoved (RationLeft r) c m (quiet_left o log r) refl (omega arith) p.1 p.2
  moves_keep (OutCount r) c m p = unmoved (OutCount r) c m (quiet_count o log r) refl (p.0 ∙ out_many o ration log f n fits) p.1 p.2

module _ {S : Type 0} (st : state.Ghosts S) (k : Ghosts S) (laws : Laws (facts st) k.reads k.writes k.steps) where
  -- a port that was opened on an idle memory, and what any calls made of it
  pub reached : (start : S) (ration : ℕ) → Idle (facts st start) → (log : List Event) (c : S) (m : Numbers) → Runs st k start (new_numbers ration) log c m → Reached (facts st start) (counted_ration ration) log (facts st c) m
  reached start ration idle [] c m runs =
      subst (λ x. Reached (facts st start) (counted_ration ration) [] (facts st x) m) (sym runs.0)
      (subst (λ v. Reached (facts st start) (counted_ration ration) [] (facts st start) v) (sym runs.1) (begins (facts st start) ration idle))
  reached start ration idle (e ∷ log) c m runs =
      moves_keep st k laws (facts st start) (counted_ration ration) log runs.0 runs.1 (reached start ration idle log runs.0 runs.1 runs.2) e c m runs.3

  -- the whole promise holds of any calls, made on a port that was opened on an idle memory
  pub keeps : (start : S) (ration : ℕ) → Idle (facts st start) → (log : List Event) (c : S) (m : Numbers) → Runs st k start (new_numbers ration) log c m → Promised (facts st start) (counted_ration ration) log
  keeps start ration idle log c m runs = let r : Reached (facts st start) (counted_ration ration) log (facts st c) m = reached start ration idle log c m runs in r.promised

  -- so each call keeps it
  pub call_keeps : (e : Event) (b : S) (n : Numbers) (c : S) (m : Numbers) → Moves st k e b n c m → (start : S) (ration : ℕ) (log : List Event) → Idle (facts st start) → Runs st k start (new_numbers ration) log b n → Promised (facts st start) (counted_ration ration) (e ∷ log) × Runs st k start (new_numbers ration) (e ∷ log) c m
  call_keeps e b n c m moves start ration log idle runs =
      let all : Runs st k start (new_numbers ration) (e ∷ log) c m = (b, n, runs, moves) in
      (keeps start ration idle (e ∷ log) c m all, all)
