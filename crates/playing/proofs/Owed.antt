-- how what a port owes falls, until all that it was asked is answered
use Rattle.std.proofs.Common.{◌≡◌, ℕ, ◌+◌, ◌*◌, ◌/◌, ◌%◌, ◌<◌, ◌≤◌, Bool, true, false, cond, eqb, List, [], ◌∷◌, ◌++◌, length, replicate, Some, None, Option, Result, Ok, Err, sym, refl, ap, ◌∙◌, arith, eq-eqb}
use Rattle.std.proofs.lemmas.List.{length-append}
use Rattle.line.specs.Size.{line_size}
use Rattle.line.specs.Values.{value_mask, value_bytes}
use Rattle.list.proofs.Distinct.{shorter}
use Rattle.list.proofs.Entries.{some_is}
use Rattle.memory.specs.Gather.{facts}
use Rattle.memory.specs.Laws.{Laws}
use Rattle.memory.specs.Meaning.{Facts, Open, StepMeans, Idle}
use Rattle.memory.specs.declared.memory.Memory.{Ghosts}
use Rattle.memory.specs.declared.refusal.Refusal as memory_refusal
use Rattle.memory.specs.declared.refusal.Refusal.TheVariants as memory_refuses
use Rattle.memory.specs.declared.replies.Answer.{Answer}
use Rattle.memory.specs.declared.replies.Status.{Status}
use Rattle.memory.specs.declared.state.State as state
use Rattle.port.proofs.Calls.{reached}
use Rattle.port.proofs.Fits.{Fits, Reached}
use Rattle.port.proofs.Fitting.{out_entry, shows, waits}
use Rattle.port.proofs.Lists.{true_false}
use Rattle.port.specs.Limits.{most_out}
use Rattle.port.specs.Moves.{Asks, LoadAsks, StoreAsks}
use Rattle.port.specs.Numbers.{counted_ration, out_at, with_come, held_for, number_for, held, without_number}
use Rattle.port.specs.Port.{port_below, port_numbers, PortMoves, CameBy}
use Rattle.port.specs.Promise.{has, out, come}
use Rattle.port.specs.Requests.{Verdict, load_verdict, store_verdict}
use Rattle.port.specs.declared.answer.Asked.{Asked}
use Rattle.port.specs.declared.answer.Redeemed.{Redeemed}
use Rattle.port.specs.declared.event.Event.{Event}
use Rattle.port.specs.declared.event.Event.TheVariants.{Load, Store, Step, Redeem}
use Rattle.port.specs.declared.numbers.NumberOut.{NumberOut}
use Rattle.port.specs.declared.numbers.Numbers.{Numbers}
use Rattle.port.specs.declared.port.Port.{Port}
use Rattle.port.specs.declared.refusal.Refusal.{Refusal}
use Rattle.port.specs.declared.refusal.Refusal.TheVariants.{Unlawful, RationUsed, TooManyOut, Busy}

-- how many numbers have come
abbrev come_count : Numbers → ℕ
come_count n = length n.come.items

-- at most one number comes with an answer
with_come_more : (number : ℕ) (numbers : List ℕ) → length (with_come number numbers) ≤ length numbers + 1
with_come_more number numbers = go (eqb (length numbers) most_out)
  where
    go : (b : Bool) → length (cond b numbers (numbers ++ (number ∷ []))) ≤ length numbers + 1
    go true = omega arith
    go false = let l = length-append numbers (number ∷ []) in omega arith

held_for_more : (number : Option ℕ) (status : Status) (bytes : List ℕ) (n : Numbers) → come_count (held_for number status bytes n) ≤ come_count n + 1
held_for_more None status bytes n = omega arith
held_for_more (Some number) status bytes n = with_come_more number n.come.items

-- a number that has come is not there once it is redeemed
without_less : (number : ℕ) (n : Numbers) → has number n.come.items ≡ true → come_count (without_number number n) < come_count n
without_less number n is = let x = some_is _ is in let l = shorter (λ k. k) n.come.items number x.0 x.1 in omega arith

-- the first of the numbers of a list that has some
first_of : (numbers : List ℕ) → 1 ≤ length numbers → (u : ℕ) × (has u numbers ≡ true)
first_of [] some = absurd (omega arith)
first_of (u ∷ numbers) some = (u, rw (eq-eqb u u refl) refl)

-- while a number is out and no answer has come, a ticket is open
still_open : (o : Facts) (ration : ℕ) (log : List Event) (f : Facts) (n : Numbers) → Fits o ration log f n → come log ≡ [] → 1 ≤ length (out log) → (t : ℕ) × Open f t
still_open o ration log f n fits none some =
    let u = first_of (out log) some in
    let x = out_entry o ration log f n fits u.0 u.1 in
    go u.0 x.0 x.1 x.0.answer refl
  where
    go : (u : ℕ) (x : NumberOut) → out_at n u ≡ Some x → (r : Option Redeemed) → x.answer ≡ r → (t : ℕ) × Open f t
    go u x is None e = (x.ticket, (waits o ration log f n fits u x is e).0)
    go u x is (Some a) e = absurd (true_false (sym (shows o ration log f n fits u x a is e).1 ∙ ap (has u) none))

-- a step raises nothing
step_less : (f g : Facts) (n : Numbers) (lent bytes : List ℕ) (got : Option Answer) → StepMeans f lent got g bytes → 2 * g.owed + come_count (held got bytes n) ≤ 2 * f.owed + come_count n
step_less f g n lent bytes None l = let z = l.not_raised in omega arith
step_less f g n lent bytes (Some a) l = let z = l.lowered in let w = held_for_more (number_for a.ticket n.out.items) a.status bytes n in omega arith

-- and lowers something while a ticket is open
step_falls : (f g : Facts) (n : Numbers) (lent bytes : List ℕ) (got : Option Answer) → (t : ℕ) → Open f t → StepMeans f lent got g bytes → 2 * g.owed + come_count (held got bytes n) < 2 * f.owed + come_count n
step_falls f g n lent bytes None t is l = let z = l.lowered t is in omega arith
step_falls f g n lent bytes (Some a) t is l = let z = l.lowered in let w = held_for_more (number_for a.ticket n.out.items) a.status bytes n in omega arith

-- a request, by what it is to the memory below
module _ {S : Type 0} (owed : S → ℕ) (pace : ℕ) (verdict : Verdict) (asks : Asked → Type 0) (goes : Result ℕ memory_refusal.Refusal → S → Type 0) (b : S) (n : Numbers) (busy : (c : S) → goes (Err memory_refuses.Busy) c → owed c ≡ owed b) where
  -- one that is refused raises nothing
  asks_refused : (why : Refusal) (c : S) (m : Numbers) → Asks verdict asks goes b n (Err why) c m → 2 * owed c + come_count m ≤ 2 * owed b + come_count n
  asks_refused (Unlawful why) c m p = let z = ap owed p.1 in let w = ap come_count p.2 in omega arith
  asks_refused RationUsed c m p = let z = ap owed p.2 in let w = ap come_count p.3 in omega arith
  asks_refused TooManyOut c m p = let z = ap owed p.2 in let w = ap come_count p.3 in omega arith
  asks_refused Busy c m p = let z = busy c p.2 in let w = ap come_count p.3 in omega arith

  -- any raises by twice the pace at most
  asks_more : ((c : S) (ticket : ℕ) → goes (Ok ticket) c → owed c ≤ owed b + pace) → (r : Result ℕ Refusal) (c : S) (m : Numbers) → Asks verdict asks goes b n r c m → 2 * owed c + come_count m ≤ 2 * owed b + come_count n + 2 * pace
  asks_more raised (Ok number) c m p = let z = raised c p.3.0 p.3.2 in let w = ap come_count p.3.4 in omega arith
  asks_more raised (Err why) c m p = let z = asks_refused why c m p in omega arith

-- what a port has still to bring and to be asked for: twice the steps that the memory below it owes, and the numbers whose answers have come
module _ {S : Type 0} (st : state.Ghosts S) (k : Ghosts S) (laws : Laws (facts st) k.reads k.writes k.steps) (start : S) (ration : ℕ) (idle : Idle (facts st start)) where
  abbrev pub port_left : Port S → ℕ
  port_left p = 2 * (facts st (port_below p)).owed + length (port_numbers p).come.items

  -- the steps that the memory below owes
  abbrev owes : S → ℕ
  owes b = (facts st b).owed

  -- a port fits the events by which it came
  fits_events : (log : List Event) (p : Port S) → CameBy st k start ration log p → Fits (facts st start) (counted_ration ration) log (facts st (port_below p)) (port_numbers p)
  fits_events log p came = let r : Reached (facts st start) (counted_ration ration) log (facts st (port_below p)) (port_numbers p) = reached st k laws start ration idle log (port_below p) (port_numbers p) came in r.fits

  -- the pace is that at the opening
  pace_is : (log : List Event) (p : Port S) → CameBy st k start ration log p → (facts st (port_below p)).pace ≡ (facts st start).pace
  pace_is log p came = (fits_events log p came).fixed.pace_stays

  -- at the opening it is 0
  pub left_new : (p : Port S) → CameBy st k start ration [] p → port_left p ≡ 0
  left_new p came = let z = ap owes came.0 in let w = ap come_count came.1 in let y = idle.none_owed in omega arith

  -- a step never raises it
  pub left_step : (log : List Event) (r : Option ℕ) (p q : Port S) → CameBy st k start ration log p → PortMoves st k (Step r) p q → port_left q ≤ port_left p
  left_step log r p q came moves =
      let l = laws.stepping (port_below p) (port_below q) (replicate line_size 0) moves.1 moves.0 moves.2 in
      let w = ap come_count moves.4 in
      let z = step_less (facts st (port_below p)) (facts st (port_below q)) (port_numbers p) (replicate line_size 0) moves.1 moves.0 l in
      omega arith

  -- and makes it fall, while a number is out and no answer has come
  pub left_falls : (log : List Event) (r : Option ℕ) (p q : Port S) → CameBy st k start ration log p → PortMoves st k (Step r) p q → come log ≡ [] → 1 ≤ length (out log) → port_left q < port_left p
  left_falls log r p q came moves none some =
      let t = still_open (facts st start) (counted_ration ration) log (facts st (port_below p)) (port_numbers p) (fits_events log p came) none some in
      let l = laws.stepping (port_below p) (port_below q) (replicate line_size 0) moves.1 moves.0 moves.2 in
      let w = ap come_count moves.4 in
      let z = step_falls (facts st (port_below p)) (facts st (port_below q)) (port_numbers p) (replicate line_size 0) moves.1 moves.0 t.0 t.1 l in
      omega arith

  -- an accepted or refused load raises it by at most twice the pace
  pub left_load : (log : List Event) (size address : ℕ) (r : Result ℕ Refusal) (p q : Port S) → CameBy st k start ration log p → PortMoves st k (Load size address r) p q → port_left q ≤ port_left p + 2 * (facts st start).pace
  left_load log size address r p q came moves =
      let is = pace_is log p came in
      asks_more owes (facts st start).pace (load_verdict (st.lines (port_below p)) size address) (LoadAsks size address) (λ s t. k.reads (port_below p) (address / line_size) s t) (port_below p) (port_numbers p)
      (λ c goes. (laws.reading (port_below p) c (address / line_size) (Err memory_refuses.Busy) goes).2.owed_stays)
      (λ c ticket goes. let z = (laws.reading (port_below p) c (address / line_size) (Ok ticket) goes).opens.raised in omega arith)
      r (port_below q) (port_numbers q) moves

  -- and so does a store
  pub left_store : (log : List Event) (size address value : ℕ) (r : Result ℕ Refusal) (p q : Port S) → CameBy st k start ration log p → PortMoves st k (Store size address value r) p q → port_left q ≤ port_left p + 2 * (facts st start).pace
  left_store log size address value r p q came moves =
      let is = pace_is log p came in
      asks_more owes (facts st start).pace (store_verdict (st.lines (port_below p)) size address value) StoreAsks
      (λ s t. k.writes (port_below p) (address / line_size) (value_mask (address % line_size) size) (value_bytes (address % line_size) size value) s t) (port_below p) (port_numbers p)
      (λ c goes. (laws.writing (port_below p) c (address / line_size) (value_mask (address % line_size) size) (value_bytes (address % line_size) size value) (Err memory_refuses.Busy) goes).2.owed_stays)
      (λ c ticket goes. let z = (laws.writing (port_below p) c (address / line_size) (value_mask (address % line_size) size) (value_bytes (address % line_size) size value) (Ok ticket) goes).opens.raised in omega arith)
      r (port_below q) (port_numbers q) moves

  -- a refused load leaves it as it is
  pub left_load_refused : (log : List Event) (size address : ℕ) (why : Refusal) (p q : Port S) → CameBy st k start ration log p → PortMoves st k (Load size address (Err why)) p q → port_left q ≤ port_left p
  left_load_refused log size address why p q came moves =
      asks_refused owes 0 (load_verdict (st.lines (port_below p)) size address) (LoadAsks size address) (λ s t. k.reads (port_below p) (address / line_size) s t) (port_below p) (port_numbers p)
      (λ c goes. (laws.reading (port_below p) c (address / line_size) (Err memory_refuses.Busy) goes).2.owed_stays)
      why (port_below q) (port_numbers q) moves

  -- and so does a refused store
  pub left_store_refused : (log : List Event) (size address value : ℕ) (why : Refusal) (p q : Port S) → CameBy st k start ration log p → PortMoves st k (Store size address value (Err why)) p q → port_left q ≤ port_left p
  left_store_refused log size address value why p q came moves =
      asks_refused owes 0 (store_verdict (st.lines (port_below p)) size address value) StoreAsks
      (λ s t. k.writes (port_below p) (address / line_size) (value_mask (address % line_size) size) (value_bytes (address % line_size) size value) s t) (port_below p) (port_numbers p)
      (λ c goes. (laws.writing (port_below p) c (address / line_size) (value_mask (address % line_size) size) (value_bytes (address % line_size) size value) (Err memory_refuses.Busy) goes).2.owed_stays)
      why (port_below q) (port_numbers q) moves

  -- a number that is redeemed makes it fall
  pub left_redeem : (log : List Event) (number : ℕ) (answer : Redeemed) (p q : Port S) → CameBy st k start ration log p → PortMoves st k (Redeem number (Ok answer)) p q → port_left q < port_left p
  left_redeem log number answer p q came moves =
      let fits = fits_events log p came in
      let x = moves.0.0 in
      let s = shows (facts st start) (counted_ration ration) log (facts st (port_below p)) (port_numbers p) fits number x.0 answer x.1 x.2 in
      let l = without_less number (port_numbers p) (ap (has number) fits.come_is ∙ s.1) in
      let w = ap come_count moves.0.1 in
      let z = ap owes moves.1 in
      omega arith
