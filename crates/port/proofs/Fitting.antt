-- how a port and the memory below it fit the events, over facts alone
use Rattle.std.proofs.Common.{◌≡◌, ◌≢◌, ◌⊎◌, inl, inr, ℕ, ◌+◌, ◌*◌, ◌<◌, ◌≤◌, Bool, true, false, cond, eqb, leb, List, [], ◌∷◌, ◌++◌, map, length, is_some, slice_index, Some, None, Option, Ok, sym, refl, ap, ◌∙◌, arith, eq-eqb, eqb-true, ne_eqb, leb-false}
use Rattle.std.proofs.lemmas.Bool.{cases_eq, eqb-false}
use Rattle.line.specs.Size.{line_size}
use Rattle.list.proofs.Distinct.{push_found, push_other, gone, without_other, distinct_push, distinct_without, shorter}
use Rattle.list.proofs.Entries.{none_some, some_is, altered_found, altered_other, distinct_altered}
use Rattle.list.specs.Keyed.{without, altered}
use Rattle.memory.specs.Meaning.{Facts, Well, Fixed, ContentsStay, Open, Opened, Answered, Shown}
use Rattle.memory.specs.Replies.{status_of}
use Rattle.memory.specs.declared.replies.Answer.{Answer}
use Rattle.memory.specs.declared.replies.Reply.{Reply}
use Rattle.memory.specs.declared.replies.Reply.TheVariants as reply
use Rattle.port.proofs.Lists.{map_push, map_without, map_altered, has_map, has_push, has_without, fewer}
use Rattle.port.proofs.Logs.{Counts, not_out_yet}
use Rattle.port.specs.Answers.{answer_to}
use Rattle.port.proofs.Fits.{shown, Stands, Fits}
use Rattle.port.specs.Limits.{most_out}
use Rattle.port.specs.Numbers.{out_number, out_at, refusal_of, with_given, answered, with_come, held_for, without_number}
use Rattle.port.specs.Promise.{flat, due_to, accepted, waited, has, out, come}
use Rattle.port.specs.declared.answer.Asked.{Asked}
use Rattle.port.specs.declared.answer.Asked.TheVariants as asked
use Rattle.port.specs.declared.answer.Redeemed.{Redeemed}
use Rattle.port.specs.declared.event.Event.{Event}
use Rattle.port.specs.declared.event.Event.TheVariants.{Step, Redeem}
use Rattle.port.specs.declared.numbers.NumberOut.{NumberOut}
use Rattle.port.specs.declared.numbers.Numbers.{Numbers}
use Rattle.port.specs.declared.refusal.Refusal.TheVariants.{RationUsed, TooManyOut}

mul_more : (p n : ℕ) → p * (n + 1) ≡ p * n + p
mul_more p n = grind arith

fixed_further : {s t u : Facts} → Fixed s t → Fixed t u → Fixed s u
fixed_further a b = record {
  lines_stay = b.lines_stay ∙ a.lines_stay;
  bad_stay = λ line. b.bad_stay line ∙ a.bad_stay line;
  pace_stays = b.pace_stays ∙ a.pace_stays;
}

-- a number is out exactly where the port has an entry for it
module _ (o : Facts) (ration : ℕ) (log : List Event) (f : Facts) (n : Numbers) (h : Fits o ration log f n) where
  pub has_out : (u : ℕ) → has u (out log) ≡ is_some (out_at n u)
  has_out u = ap (has u) (sym h.out_is) ∙ has_map out_number n.out.items u

  pub entry_out : (u : ℕ) (x : NumberOut) → out_at n u ≡ Some x → has u (out log) ≡ true
  entry_out u x is = has_out u ∙ ap is_some is

  pub none_out : (u : ℕ) → out_at n u ≡ None → has u (out log) ≡ false
  none_out u is = has_out u ∙ ap is_some is

  pub out_entry : (u : ℕ) → has u (out log) ≡ true → (x : NumberOut) × (out_at n u ≡ Some x)
  out_entry u is = some_is (out_at n u) (sym (has_out u) ∙ is)

  pub out_none : (u : ℕ) → has u (out log) ≡ false → out_at n u ≡ None
  out_none u is = go (out_at n u) (sym (has_out u) ∙ is)
    where
      go : (r : Option NumberOut) → is_some r ≡ false → r ≡ None
      go None e = refl
      go (Some x) e = absurd (let z : ◌≡◌ {A = ℕ} 0 1 = cc in omega arith)

  pub out_many : length n.out.items ≡ length (out log)
  out_many = sym (length_map n.out.items) ∙ ap length h.out_is
    where
      length_map : (xs : List NumberOut) → length (map out_number xs) ≡ length xs
      length_map [] = refl
      length_map (x ∷ xs) = omega (arith, length_map xs)

  -- a number whose answer has not come waits for a ticket that is open
  pub waits : (u : ℕ) (x : NumberOut) → out_at n u ≡ Some x → x.answer ≡ None → Open f x.ticket × (has u (come log) ≡ false)
  waits u x is none = go x.answer none (h.stands u x is)
    where
      go : (r : Option Redeemed) → r ≡ None → Stands o log f u x r → Open f x.ticket × (has u (come log) ≡ false)
      go None e s = (ap is_some s.0.1, s.1)
      go (Some a) e s = absurd (none_some a (sym e))

  -- and one whose answer has come shows what was promised
  pub shows : (u : ℕ) (x : NumberOut) (a : Redeemed) → out_at n u ≡ Some x → x.answer ≡ Some a → (due_to o log u ≡ Some a) × (has u (come log) ≡ true)
  shows u x a is some = go x.answer some (h.stands u x is)
    where
      go : (r : Option Redeemed) → r ≡ Some a → Stands o log f u x r → (due_to o log u ≡ Some a) × (has u (come log) ≡ true)
      go None e s = absurd (none_some a e)
      go (Some b) e s = (s.0 ∙ e, s.1)

  -- once pace × accepted steps were made, the answers to all numbers out have come
  pub all_come : Well f → o.pace * accepted log ≤ waited log → (u : ℕ) → has u (out log) ≡ true → has u (come log) ≡ true
  all_come well late u is = go (out_entry u is)
    where
      by_answer : (x : NumberOut) → out_at n u ≡ Some x → (r : Option Redeemed) → x.answer ≡ r → has u (come log) ≡ true
      by_answer x at None e =
          let w = waits u x at e in
          let one = well.owing x.ticket w.0 in
          let p = h.paid x.ticket w.0 in
          absurd (omega arith)
      by_answer x at (Some a) e = (shows u x a at e).1

      go : (x : NumberOut) × (out_at n u ≡ Some x) → has u (come log) ≡ true
      go p = by_answer p.0 p.1 p.0.answer refl

-- what stands under a number, told of other events and other facts
stands_still : (o : Facts) (log new : List Event) (f g : Facts) (u : ℕ) (x : NumberOut) (r : Option Redeemed) → due_to o new u ≡ due_to o log u → has u (come new) ≡ has u (come log) → (r ≡ None → g.due x.ticket ≡ f.due x.ticket) → Stands o log f u x r → Stands o new g u x r
stands_still o log new f g u x None p c d s = ((s.0.0, d refl ∙ s.0.1, p ∙ s.0.2), c ∙ s.1)
stands_still o log new f g u x (Some a) p c d s = (p ∙ s.0, c ∙ s.1)

-- events that give, bring and redeem no number, and store nothing
pub record Quiet (o : Facts) (e : Event) (log : List Event) : Type 0 where
  pub flat_same : (a : ℕ) → flat o (e ∷ log) a ≡ flat o log a
  pub due_same : (u : ℕ) → due_to o (e ∷ log) u ≡ due_to o log u
  pub accepted_same : accepted (e ∷ log) ≡ accepted log
  pub out_same : out (e ∷ log) ≡ out log
  pub come_same : come (e ∷ log) ≡ come log

-- the memory below changes what is due to none
module _ (o : Facts) (ration : ℕ) (log : List Event) (f g : Facts) (n : Numbers) (e : Event) (quiet : Quiet o e log) (h : Fits o ration log f n) where
  pub still : Fixed f g → ContentsStay f g → ((u : ℕ) → g.due u ≡ f.due u) → g.owed ≤ f.owed → ((t : ℕ) → Open f t → g.owed + waited (e ∷ log) ≤ f.owed + waited log) → Fits o ration (e ∷ log) g n
  still fixed stay due less falls =
      let same = quiet.accepted_same in
      let paces : o.pace * accepted (e ∷ log) ≡ o.pace * accepted log = ap (λ k. o.pace * k) same in
      record {
        fixed = fixed_further h.fixed fixed;
        flat_is = λ line i l j. ap (λ bytes. slice_index bytes i) (stay line) ∙ h.flat_is line i l j ∙ sym (quiet.flat_same (line_size * line + i));
        ration_is = h.ration_is;
        given_is = h.given_is ∙ sym same;
        within = let w = h.within in omega arith;
        out_is = h.out_is ∙ sym quiet.out_same;
        come_is = h.come_is ∙ sym quiet.come_same;
        differ = h.differ;
        few = h.few;
        stands = λ u x is. stands_still o log (e ∷ log) f g u x x.answer (quiet.due_same u) (ap (has u) quiet.come_same) (λ none. due x.ticket) (h.stands u x is);
        apart = h.apart;
        all = λ t op. h.all t (ap is_some (sym (due t)) ∙ op);
        most = let m = h.most in omega arith;
        paid = λ t op. let was = ap is_some (sym (due t)) ∙ op in let p = h.paid t was in let q = falls t was in omega arith;
      }

-- a lookup that is as before but for one number
module _ (old new : ℕ → Option NumberOut) (k : ℕ) (entry : Option NumberOut) (change : (u : ℕ) → new u ≡ cond (eqb u k) entry (old u)) where
  here : new k ≡ entry
  here = change k ∙ (rw (eq-eqb k k refl) refl)

  elsewhere : (u : ℕ) → u ≢ k → new u ≡ old u
  elsewhere u apart = change u ∙ (rw (ne_eqb u k apart) refl)

-- a request is accepted under the next number
pub record Accepts (o : Facts) (promise : Redeemed) (e : Event) (log : List Event) : Type 0 where
  pub accepted_more : accepted (e ∷ log) ≡ accepted log + 1
  pub waited_none : waited (e ∷ log) ≡ 0
  pub due_more : (u : ℕ) → due_to o (e ∷ log) u ≡ cond (eqb u (accepted log + 1)) (Some promise) (due_to o log u)
  pub out_more : out (e ∷ log) ≡ out log ++ ((accepted log + 1) ∷ [])
  pub come_same : come (e ∷ log) ≡ come log

-- numbers can be given
pub record Room (n : Numbers) : Type 0 where
  pub left : n.given < n.ration
  pub free : length n.out.items ≢ most_out

pub room : (n : Numbers) → refusal_of n ≡ None → Room n
room n e = go (leb n.ration n.given) refl (eqb (length n.out.items) most_out) refl e
  where
    go : (b : Bool) → leb n.ration n.given ≡ b → (c : Bool) → eqb (length n.out.items) most_out ≡ c → cond b (Some RationUsed) (cond c (Some TooManyOut) None) ≡ None → Room n
    go true t c s f = absurd (none_some RationUsed (sym f))
    go false t true s f = absurd (none_some TooManyOut (sym f))
    go false t false s f = record { left = leb-false n.ration n.given t; free = eqb-false (length n.out.items) most_out s }

module _ (o : Facts) (ration : ℕ) (log : List Event) (f g : Facts) (n : Numbers) (e : Event) (ticket : ℕ) (a : Asked) (reply : Reply) (promise : Redeemed) (accepts : Accepts o promise e log) (opens : Opened f ticket reply g) (same : shown a reply ≡ promise) (counts : Counts log) (space : Room n) (h : Fits o ration log f n) where
  abbrev number : ℕ
  number = n.given + 1

  abbrev entry : NumberOut
  entry = record { number = number; ticket = ticket; asked = a; answer = None }

  number_is : number ≡ accepted log + 1
  number_is = ap (λ k. k + 1) h.given_is

  fresh : out_at n number ≡ None
  fresh = out_none o ration log f n h number (not_out_yet log counts number (let z = number_is in omega arith))

  change : (u : ℕ) → out_at (with_given ticket a n) u ≡ cond (eqb u number) (Some entry) (out_at n u)
  change u = go (eqb u number) refl
    where
      go : (b : Bool) → eqb u number ≡ b → out_at (with_given ticket a n) u ≡ cond b (Some entry) (out_at n u)
      go true t = ap (out_at (with_given ticket a n)) (eqb-true u number t) ∙ push_found out_number n.out.items entry fresh
      go false t = push_other out_number n.out.items entry u (eqb-false u number t)

  at_new : out_at (with_given ticket a n) number ≡ Some entry
  at_new = here (out_at n) (out_at (with_given ticket a n)) number (Some entry) change

  at_old : (u : ℕ) → u ≢ number → out_at (with_given ticket a n) u ≡ out_at n u
  at_old = elsewhere (out_at n) (out_at (with_given ticket a n)) number (Some entry) change

  -- a number that waits has another ticket
  unlike : (u : ℕ) (x : NumberOut) → out_at n u ≡ Some x → x.answer ≡ None → x.ticket ≢ ticket
  unlike u x is none t =
      let z : is_some (f.due x.ticket) ≡ false = ap (λ k. is_some (f.due k)) t ∙ ap is_some opens.fresh in
      let y = (waits o ration log f n h u x is none).0 in
      let w : ◌≡◌ {A = ℕ} 0 1 = cc in omega arith

  is_entry : (x : NumberOut) → Some entry ≡ Some x → x ≡ entry
  is_entry x e = cc

  due_new : due_to o (e ∷ log) number ≡ Some promise
  due_new = accepts.due_more number ∙ (rw (eq-eqb number (accepted log + 1) number_is) refl)

  due_old : (u : ℕ) → u ≢ number → due_to o (e ∷ log) u ≡ due_to o log u
  due_old u apart = accepts.due_more u ∙ (rw (ne_eqb u (accepted log + 1) (λ z. apart (z ∙ sym number_is))) refl)

  not_come : has number (come log) ≡ false
  not_come = go (has number (come log)) refl
    where
      go : (b : Bool) → has number (come log) ≡ b → b ≡ false
      go false t = refl
      go true t = absurd (let z = counts.come_out number t in let y = none_out o ration log f n h number fresh in let w : ◌≡◌ {A = ℕ} 0 1 = cc in omega arith)

  pub accept : Fixed f g → ((line i : ℕ) → line < o.lines → i < line_size → slice_index (g.contents line) i ≡ flat o (e ∷ log) (line_size * line + i)) → Fits o ration (e ∷ log) g (with_given ticket a n)
  accept fixed flat_new = record {
    fixed = fixed_further h.fixed fixed;
    flat_is = flat_new;
    ration_is = h.ration_is;
    given_is = number_is ∙ sym accepts.accepted_more;
    within = let z = accepts.accepted_more in let l = space.left in let r = h.ration_is in let w = h.given_is in omega arith;
    out_is = map_push out_number n.out.items entry ∙ ap (λ xs. xs ++ (number ∷ [])) h.out_is ∙ ap (λ k. out log ++ (k ∷ [])) number_is ∙ sym accepts.out_more;
    come_is = h.come_is ∙ sym accepts.come_same;
    differ = distinct_push out_number n.out.items entry h.differ fresh;
    few = few;
    stands = stands;
    apart = ones;
    all = alls;
    most = omega (arith, most);
    paid = λ t op. let w = accepts.waited_none in omega (arith, most);
  }
    where
      most : g.owed ≤ o.pace * accepted (e ∷ log)
      most =
          let m = h.most in
          let r = opens.raised in
          let p = h.fixed.pace_stays in
          let z : o.pace * accepted (e ∷ log) ≡ o.pace * accepted log + o.pace = ap (λ k. o.pace * k) accepts.accepted_more ∙ mul_more o.pace (accepted log) in omega arith

      few : length (n.out.items ++ (entry ∷ [])) ≤ most_out
      few = let l = length_push n.out.items in let s = h.few in let z = space.free in go (cases_eq (length n.out.items) most_out)
        where
          length_push : (xs : List NumberOut) → length (xs ++ (entry ∷ [])) ≡ length xs + 1
          length_push [] = refl
          length_push (x ∷ xs) = omega (arith, length_push xs)

          go : (length n.out.items ≡ most_out) ⊎ (length n.out.items ≢ most_out) → length (n.out.items ++ (entry ∷ [])) ≤ most_out
          go (inl z) = absurd (space.free z)
          go (inr z) = let l = length_push n.out.items in let s = h.few in omega arith

      stands : (u : ℕ) (x : NumberOut) → out_at (with_given ticket a n) u ≡ Some x → Stands o (e ∷ log) g u x x.answer
      stands u x is = go (cases_eq u number)
        where
          at_number : u ≡ number → x ≡ entry → Stands o (e ∷ log) g u x x.answer
          at_number z s = rw (s, z) ((reply, opens.opened, due_new ∙ ap (λ r. Some r) (sym same)), ap (has number) accepts.come_same ∙ not_come)

          go : (u ≡ number) ⊎ (u ≢ number) → Stands o (e ∷ log) g u x x.answer
          go (inl z) = at_number z (is_entry x (sym (ap (out_at (with_given ticket a n)) z ∙ at_new) ∙ is))
          go (inr z) =
              let was = sym (at_old u z) ∙ is in
              stands_still o log (e ∷ log) f g u x x.answer (due_old u z) (ap (has u) accepts.come_same) (λ none. opens.others x.ticket (unlike u x was none)) (h.stands u x was)

      ones : (u v : ℕ) (x y : NumberOut) → out_at (with_given ticket a n) u ≡ Some x → x.answer ≡ None → out_at (with_given ticket a n) v ≡ Some y → y.answer ≡ None → x.ticket ≡ y.ticket → u ≡ v
      ones u v x y is none isy noney t = go (cases_eq u number) (cases_eq v number)
        where
          go : (u ≡ number) ⊎ (u ≢ number) → (v ≡ number) ⊎ (v ≢ number) → u ≡ v
          go (inl z) (inl w) = z ∙ sym w
          go (inl z) (inr w) = let s = is_entry x (sym (ap (out_at (with_given ticket a n)) z ∙ at_new) ∙ is) in absurd (unlike v y (sym (at_old v w) ∙ isy) noney (sym t ∙ ap (λ (q : NumberOut). q.ticket) s))
          go (inr z) (inl w) = let s = is_entry y (sym (ap (out_at (with_given ticket a n)) w ∙ at_new) ∙ isy) in absurd (unlike u x (sym (at_old u z) ∙ is) none (t ∙ ap (λ (q : NumberOut). q.ticket) s))
          go (inr z) (inr w) = h.apart u v x y (sym (at_old u z) ∙ is) none (sym (at_old v w) ∙ isy) noney t

      alls : (t : ℕ) → Open g t → (u : ℕ) × (x : NumberOut) × (out_at (with_given ticket a n) u ≡ Some x) × (x.answer ≡ None) × (x.ticket ≡ t)
      alls t op = go (cases_eq t ticket)
        where
          go : (t ≡ ticket) ⊎ (t ≢ ticket) → (u : ℕ) × (x : NumberOut) × (out_at (with_given ticket a n) u ≡ Some x) × (x.answer ≡ None) × (x.ticket ≡ t)
          go (inl z) = (number, entry, at_new, refl, sym z)
          go (inr z) =
              let old = h.all t (ap is_some (sym (opens.others t z)) ∙ op) in
              let other : old.0 ≢ number = (λ (w : old.0 ≡ number). none_some old.1 (sym fresh ∙ ap (out_at n) (sym w) ∙ old.2)) in
              (old.0, old.1, at_old old.0 other ∙ old.2, old.3, old.4)

-- an answer shows the reply that was due
pub shown_reply : (a : Asked) (r : Reply) (got : Answer) (lent bytes : List ℕ) → Shown (Some r) got lent bytes → answer_to a got.status bytes ≡ shown a r
shown_reply a (reply.Line bs) got lent bytes h = rw h.0 (ap (answer_to a (status_of (reply.Line bs))) h.1)
shown_reply (asked.Load span) reply.Done got lent bytes h = rw h.0 refl
shown_reply asked.Store reply.Done got lent bytes h = rw h.0 refl
shown_reply a (reply.Fault fault) got lent bytes h = rw h.0 refl

-- an answer is held for the number that waited for it
module _ (o : Facts) (ration : ℕ) (log : List Event) (f g : Facts) (n : Numbers) (lent bytes : List ℕ) (got : Answer) (number : ℕ) (x : NumberOut) (found : out_at n number ≡ Some x) (none : x.answer ≡ None) (same : x.ticket ≡ got.ticket) (counts : Counts log) (s : Answered f lent got g bytes) (h : Fits o ration log f n) where
  abbrev after : Numbers
  after = held_for (Some number) got.status bytes n

  abbrev event : Event
  event = Step (Some number)

  abbrev filled : NumberOut
  filled = answered got.status bytes x

  held_is : (u : ℕ) → out_at after u ≡ cond (eqb u number) (Some filled) (out_at n u)
  held_is u = go (eqb u number) refl
    where
      go : (b : Bool) → eqb u number ≡ b → out_at after u ≡ cond b (Some filled) (out_at n u)
      go true t = ap (out_at after) (eqb-true u number t) ∙ altered_found out_number number (answered got.status bytes) (λ y. refl) n.out.items ∙ (rw found refl)
      go false t = altered_other out_number number (answered got.status bytes) (λ y. refl) u n.out.items (eqb-false u number t)

  at_filled : out_at after number ≡ Some filled
  at_filled = here (out_at n) (out_at after) number (Some filled) held_is

  at_rest : (u : ℕ) → u ≢ number → out_at after u ≡ out_at n u
  at_rest = elsewhere (out_at n) (out_at after) number (Some filled) held_is

  is_filled : (y : NumberOut) → Some filled ≡ Some y → y ≡ filled
  is_filled y e = cc

  -- another number that waits has another ticket
  other_ticket : (u : ℕ) (y : NumberOut) → u ≢ number → out_at n u ≡ Some y → y.answer ≡ None → y.ticket ≢ got.ticket
  other_ticket u y away is still_none t = away (h.apart u number y x is still_none found none (t ∙ sym same))

  -- a number that waits still is another
  waits_still : (u : ℕ) (y : NumberOut) → out_at after u ≡ Some y → y.answer ≡ None → u ≢ number
  waits_still u y is still_none z =
      let w = is_filled y (sym (ap (out_at after) z ∙ at_filled) ∙ is) in
      none_some (answer_to x.asked got.status bytes) (sym still_none ∙ ap (λ (q : NumberOut). q.answer) w)

  pub was_waiting : has number (come log) ≡ false
  was_waiting = (waits o ration log f n h number x found none).1

  pub was_out : has number (out log) ≡ true
  was_out = entry_out o ration log f n h number x found

  -- what is held is what was promised
  promise_shown : due_to o log number ≡ Some (answer_to x.asked got.status bytes)
  promise_shown = go x.answer none (h.stands number x found)
    where
      by_due : (d : Option Reply) (r : Reply) → d ≡ Some r → Shown d got lent bytes → answer_to x.asked got.status bytes ≡ shown x.asked r
      by_due None r e t = absurd t
      by_due (Some q) r e t = shown_reply x.asked q got lent bytes t ∙ (let z : q ≡ r = cc in ap (shown x.asked) z)

      go : (r : Option Redeemed) → r ≡ None → Stands o log f number x r → due_to o log number ≡ Some (answer_to x.asked got.status bytes)
      go (Some b) e st = absurd (none_some b (sym e))
      go None e st = st.0.2 ∙ ap (λ z. Some z) (sym (by_due (f.due got.ticket) st.0.0 (ap f.due (sym same) ∙ st.0.1) s.shown))

  open_before : (t : ℕ) → Open g t → (t ≢ got.ticket) × Open f t
  open_before t op =
      let away : t ≢ got.ticket = (λ z. let w : is_some (g.due t) ≡ false = ap (λ k. is_some (g.due k)) z ∙ ap is_some s.closed in let y : ◌≡◌ {A = ℕ} 0 1 = cc in omega arith) in
      (away, ap is_some (sym (s.others t away)) ∙ op)

  come_has : (u : ℕ) → has u (come log ++ (number ∷ [])) ≡ cond (eqb u number) true (has u (come log))
  come_has u = has_push (come log) number u

  come_fits : with_come number n.come.items ≡ come log ++ (number ∷ [])
  come_fits = ap (with_come number) h.come_is ∙ go (eqb (length (come log)) most_out) refl
    where
      less : length (come log) < most_out
      less = let l = fewer (come log) (out log) number counts.come_differ counts.come_out was_out was_waiting in let m = out_many o ration log f n h in let k = h.few in omega arith

      go : (b : Bool) → eqb (length (come log)) most_out ≡ b → cond b (come log) (come log ++ (number ∷ [])) ≡ come log ++ (number ∷ [])
      go false e = refl
      go true e = absurd (let z = eqb-true (length (come log)) most_out e in let l = less in omega arith)

  pub answer : Fits o ration (event ∷ log) g after
  answer =
      let paces : o.pace * (accepted log + 0) ≡ o.pace * accepted log = ap (λ k. o.pace * k) (omega arith) in
      record {
        fixed = fixed_further h.fixed s.fixed;
        flat_is = λ line i l j. ap (λ bs. slice_index bs i) (s.contents_stay line) ∙ h.flat_is line i l j;
        ration_is = h.ration_is;
        given_is = let z = h.given_is in omega arith;
        within = let z = h.within in omega arith;
        out_is = map_altered out_number number (answered got.status bytes) (λ y. refl) n.out.items ∙ h.out_is;
        come_is = come_fits;
        differ = distinct_altered out_number number (answered got.status bytes) (λ y. refl) n.out.items h.differ;
        few = few;
        stands = stands;
        apart = λ u v y z isy noney isz nonez t. h.apart u v y z (sym (at_rest u (waits_still u y isy noney)) ∙ isy) noney (sym (at_rest v (waits_still v z isz nonez)) ∙ isz) nonez t;
        all = alls;
        most = let m = h.most in let l = s.lowered in omega arith;
        paid = λ t op. let b = open_before t op in let p = h.paid t b.1 in let l = s.lowered in omega arith;
      }
    where
      few : length (altered out_number number (answered got.status bytes) n.out.items) ≤ most_out
      few = let l = length_altered n.out.items in let k = h.few in omega arith
        where
          step : (b : Bool) (y : NumberOut) (ys rest : List NumberOut) → length rest ≡ length ys → length (cond b (answered got.status bytes y ∷ ys) (y ∷ rest)) ≡ length (y ∷ ys)
          step true y ys rest e = refl
          step false y ys rest e = omega arith

          length_altered : (xs : List NumberOut) → length (altered out_number number (answered got.status bytes) xs) ≡ length xs
          length_altered [] = refl
          length_altered (y ∷ ys) = step (eqb y.number number) y ys (altered out_number number (answered got.status bytes) ys) (length_altered ys)

      stands : (u : ℕ) (y : NumberOut) → out_at after u ≡ Some y → Stands o (event ∷ log) g u y y.answer
      stands u y is = go (cases_eq u number)
        where
          at_number : u ≡ number → y ≡ filled → Stands o (event ∷ log) g u y y.answer
          at_number z w = rw (w, z) (promise_shown, come_has number ∙ (rw (eq-eqb number number refl) refl))

          go : (u ≡ number) ⊎ (u ≢ number) → Stands o (event ∷ log) g u y y.answer
          go (inl z) = at_number z (is_filled y (sym (ap (out_at after) z ∙ at_filled) ∙ is))
          go (inr z) =
              let was = sym (at_rest u z) ∙ is in
              stands_still o log (event ∷ log) f g u y y.answer refl (come_has u ∙ (rw (ne_eqb u number z) refl)) (λ still_none. s.others y.ticket (other_ticket u y z was still_none)) (h.stands u y was)

      alls : (t : ℕ) → Open g t → (u : ℕ) × (y : NumberOut) × (out_at after u ≡ Some y) × (y.answer ≡ None) × (y.ticket ≡ t)
      alls t op =
          let b = open_before t op in
          let old = h.all t b.1 in
          let away : old.0 ≢ number = (λ (z : old.0 ≡ number).
          let e : Some old.1 ≡ Some x = sym old.2 ∙ ap (out_at n) z ∙ found in
          let w : old.1 ≡ x = cc in
          b.0 (sym old.4 ∙ ap (λ (q : NumberOut). q.ticket) w ∙ same)) in
          (old.0, old.1, at_rest old.0 away ∙ old.2, old.3, old.4)

-- a number is redeemed
module _ (o : Facts) (ration : ℕ) (log : List Event) (f : Facts) (n : Numbers) (number : ℕ) (x : NumberOut) (reply : Redeemed) (found : out_at n number ≡ Some x) (has_answer : x.answer ≡ Some reply) (counts : Counts log) (h : Fits o ration log f n) where
  abbrev left : Numbers
  left = without_number number n

  abbrev redeem_event : Event
  redeem_event = Redeem number (Ok reply)

  gone_is : (u : ℕ) → out_at left u ≡ cond (eqb u number) None (out_at n u)
  gone_is u = go (eqb u number) refl
    where
      go : (b : Bool) → eqb u number ≡ b → out_at left u ≡ cond b None (out_at n u)
      go true t = ap (out_at left) (eqb-true u number t) ∙ gone out_number n.out.items number h.differ
      go false t = without_other out_number n.out.items u number (eqb-false u number t)

  at_gone : out_at left number ≡ None
  at_gone = here (out_at n) (out_at left) number None gone_is

  at_left : (u : ℕ) → u ≢ number → out_at left u ≡ out_at n u
  at_left = elsewhere (out_at n) (out_at left) number None gone_is

  is_left : (u : ℕ) (y : NumberOut) → out_at left u ≡ Some y → u ≢ number
  is_left u y is z = none_some y (sym at_gone ∙ ap (out_at left) (sym z) ∙ is)

  pub redeem : Fits o ration (redeem_event ∷ log) f left
  redeem =
      let paces : o.pace * (accepted log + 0) ≡ o.pace * accepted log = ap (λ k. o.pace * k) (omega arith) in
      record {
        fixed = h.fixed;
        flat_is = h.flat_is;
        ration_is = h.ration_is;
        given_is = let z = h.given_is in omega arith;
        within = let z = h.within in omega arith;
        out_is = map_without out_number n.out.items number ∙ ap (without (λ k. k) number) h.out_is;
        come_is = ap (without (λ k. k) number) h.come_is;
        differ = distinct_without out_number n.out.items number h.differ;
        few = let l = shorter out_number n.out.items number x found in let k = h.few in omega arith;
        stands = λ u y is. stands_still o log (redeem_event ∷ log) f f u y y.answer refl (has_without (come log) number u counts.come_differ ∙ (rw (ne_eqb u number (is_left u y is)) refl)) (λ none. refl) (h.stands u y (sym (at_left u (is_left u y is)) ∙ is));
        apart = λ u v y z isy noney isz nonez t. h.apart u v y z (sym (at_left u (is_left u y isy)) ∙ isy) noney (sym (at_left v (is_left v z isz)) ∙ isz) nonez t;
        all = λ t op.
            let old = h.all t op in
            let away : old.0 ≢ number = (λ (z : old.0 ≡ number).
            let e : Some old.1 ≡ Some x = sym old.2 ∙ ap (out_at n) z ∙ found in
            let w : old.1 ≡ x = cc in
            none_some reply (sym old.3 ∙ ap (λ (q : NumberOut). q.answer) w ∙ has_answer)) in
            (old.0, old.1, at_left old.0 away ∙ old.2, old.3, old.4);
        most = let m = h.most in omega arith;
        paid = λ t op. let p = h.paid t op in omega arith;
      }
