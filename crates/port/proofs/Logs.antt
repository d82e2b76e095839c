-- what holds of the counts of a log
use Rattle.std.proofs.Common.{◌≡◌, ◌≢◌, ℕ, ◌+◌, ◌<◌, Bool, true, false, cond, eqb, ◌&&◌, List, [], ◌∷◌, ◌++◌, length, Some, None, Option, Ok, Err, sym, refl, ap, ◌∙◌, subst, ⊎_elim, arith, eq-eqb, ne_eqb}
use Rattle.std.specs.Prelude.{nat_le}
use Rattle.std.proofs.Math.Bool.{and-false}
use Rattle.std.proofs.lemmas.Bool.{cases_eq, le-leb, lt-leb, leb-true, leb-false}
use Rattle.std.proofs.lemmas.List.{length-append}
use Rattle.list.proofs.Distinct.{distinct_push, distinct_without, shorter}
use Rattle.list.proofs.Entries.{none_some, some_is}
use Rattle.list.specs.Keyed.{entry_of, without, Distinct}
use Rattle.memory.specs.Meaning.{Facts}
use Rattle.port.proofs.Lists.{none_is, has_push, has_without}
use Rattle.port.specs.Events.{given_number, redeemed_number, brought_number}
use Rattle.port.specs.Promise.{accepted, redemptions, out, come, has, times_redeemed, one_if, failed_redeem, May}
use Rattle.port.specs.declared.event.Event.{Event}
use Rattle.port.specs.declared.event.Event.TheVariants.{Load, Store, Step, Redeem, Come, Size, RationLeft, OutCount}

-- what holds of the counts of a log
pub record Counts (log : List Event) : Type 0 where
  pub differ : Distinct (λ k. k) (out log)
  pub come_differ : Distinct (λ k. k) (come log)
  pub sums : accepted log ≡ redemptions log + length (out log)
  pub once : (u : ℕ) → times_redeemed u log + one_if (has u (out log)) ≡ one_if (nat_le 1 u && nat_le u (accepted log))
  pub come_out : (u : ℕ) → has u (come log) ≡ true → has u (out log) ≡ true

none_given : (u : ℕ) → one_if (nat_le 1 u && nat_le u 0) ≡ 0
none_given u = ⊎_elim (λ e. rw e refl) (λ n. rw (lt-leb u 0 (omega arith), and-false (nat_le 1 u)) refl) (cases_eq u 0)

-- before the first event
pub no_counts : Counts []
no_counts = record {
  differ = tt;
  come_differ = tt;
  sums = refl;
  once = λ u. sym (none_given u);
  come_out = λ u e. e;
}

none_times_out : (t : ℕ) (b c : Bool) → t + one_if b ≡ one_if c → c ≡ false → (t ≡ 0) × (b ≡ false)
none_times_out t true c e f = absurd (let z : one_if c ≡ 0 = ap one_if f in omega arith)
none_times_out t false c e f = let z : one_if c ≡ 0 = ap one_if f in (omega arith, refl)

module _ (log : List Event) (c : Counts log) where
  -- a number that was not given yet was never redeemed and is not out
  not_yet : (u : ℕ) → accepted log < u → (times_redeemed u log ≡ 0) × (has u (out log) ≡ false)
  not_yet u l = none_times_out (times_redeemed u log) (has u (out log)) (nat_le 1 u && nat_le u (accepted log)) (c.once u) (rw (lt-leb u (accepted log) l) (and-false (nat_le 1 u)))

  -- a number that was not given yet is not out
  pub not_out_yet : (u : ℕ) → accepted log < u → has u (out log) ≡ false
  not_out_yet u l = (not_yet u l).1

-- the counts of a log of which it is told what they are
counts_from : (log : List Event) (o d : List ℕ) (a r : ℕ) (t : ℕ → ℕ)
    → out log ≡ o → come log ≡ d → accepted log ≡ a → redemptions log ≡ r → ((u : ℕ) → times_redeemed u log ≡ t u)
    → Distinct (λ k. k) o → Distinct (λ k. k) d → a ≡ r + length o
    → ((u : ℕ) → t u + one_if (has u o) ≡ one_if (nat_le 1 u && nat_le u a))
    → ((u : ℕ) → has u d ≡ true → has u o ≡ true)
    → Counts log
counts_from log o d a r t is_o is_d is_a is_r is_t differ come_differ sums once come_out = record {
  differ = subst (Distinct (λ k. k)) (sym is_o) differ;
  come_differ = subst (Distinct (λ k. k)) (sym is_d) come_differ;
  sums = is_a ∙ sums ∙ ap (λ k. r + length k) (sym is_o) ∙ ap (λ k. k + length (out log)) (sym is_r);
  once = λ u. ap (λ k. k + one_if (has u (out log))) (is_t u) ∙ ap (λ k. t u + one_if (has u k)) is_o ∙ once u ∙ ap (λ k. one_if (nat_le 1 u && nat_le u k)) (sym is_a);
  come_out = λ u h. ap (has u) is_o ∙ come_out u (ap (has u) (sym is_d) ∙ h);
}

-- the next number lies in the numbers that were given, and no other number comes into them with it
next_within : (a : ℕ) → one_if (nat_le 1 (a + 1) && nat_le (a + 1) (a + 1)) ≡ 1
next_within a = rw (le-leb 1 (a + 1) (omega arith), le-leb (a + 1) (a + 1) (omega arith)) refl

same_within : (u a : ℕ) → u ≢ a + 1 → nat_le u (a + 1) ≡ nat_le u a
same_within u a n = go (nat_le u a) refl
  where
    go : (b : Bool) → nat_le u a ≡ b → nat_le u (a + 1) ≡ b
    go true e = let l = leb-true u a e in le-leb u (a + 1) (omega arith)
    go false e = let l = leb-false u a e in lt-leb u (a + 1) (omega arith)

module _ (log : List Event) (e : Event) (c : Counts log) where
  -- an event that gives the next number
  counts_given : given_number e ≡ Some (accepted log + 1) → redeemed_number e ≡ None → brought_number e ≡ None → Counts (e ∷ log)
  counts_given g r b =
      let n : ℕ = accepted log + 1 in
      let fresh = not_yet log c n (omega arith) in
      let here : times_redeemed n log + one_if (has n (out log ++ (n ∷ []))) ≡ one_if (nat_le 1 n && nat_le n n) = rw (fresh.0, has_push (out log) n n, eq-eqb n n refl) (sym (next_within (accepted log))) in
      counts_from (e ∷ log) (out log ++ (n ∷ [])) (come log) n (redemptions log) (λ u. times_redeemed u log)
      (rw (g, r) refl)
      (rw (b, r) refl)
      (rw g refl)
      (rw r (omega arith))
      (λ u. rw r (omega arith))
      (distinct_push (λ k. k) (out log) n c.differ (none_is (entry_of (λ k. k) n (out log)) fresh.1))
      c.come_differ
      (omega (arith, length-append (out log) (n ∷ []), c.sums))
      (λ u. ⊎_elim
      (λ is. subst (λ k. times_redeemed k log + one_if (has k (out log ++ (n ∷ []))) ≡ one_if (nat_le 1 k && nat_le k n)) (sym is) here)
      (λ not. rw (has_push (out log) n u, ne_eqb u n not, same_within u (accepted log) not) (c.once u))
      (cases_eq u n))
      (λ u h. has_push (out log) n u ∙ rw (c.come_out u h) (go (eqb u n)))
    where
      go : (b : Bool) → cond b true true ≡ true
      go true = refl
      go false = refl

  -- an event that brings the answer to a number that is out and whose answer has not come
  counts_brought : (n : ℕ) → given_number e ≡ None → redeemed_number e ≡ None → brought_number e ≡ Some n → has n (out log) ≡ true → has n (come log) ≡ false → Counts (e ∷ log)
  counts_brought n g r b is_out not_come =
      counts_from (e ∷ log) (out log) (come log ++ (n ∷ [])) (accepted log) (redemptions log) (λ u. times_redeemed u log)
      (rw (g, r) refl)
      (rw (b, r) refl)
      (rw g (omega arith))
      (rw r (omega arith))
      (λ u. rw r (omega arith))
      c.differ
      (distinct_push (λ k. k) (come log) n c.come_differ (none_is (entry_of (λ k. k) n (come log)) not_come))
      c.sums
      c.once
      (λ u h. ⊎_elim
      (λ is. ap (λ k. has k (out log)) is ∙ is_out)
      (λ not.
      let same : has u (come log ++ (n ∷ [])) ≡ has u (come log) = has_push (come log) n u ∙ rw (ne_eqb u n not) refl in
      c.come_out u (sym same ∙ h))
      (cases_eq u n))

  -- an event that redeems a number that is out
  counts_redeemed : (n : ℕ) → given_number e ≡ None → redeemed_number e ≡ Some n → brought_number e ≡ None → has n (out log) ≡ true → Counts (e ∷ log)
  counts_redeemed n g r b is_out =
      let x = some_is (entry_of (λ k. k) n (out log)) is_out in
      let less = shorter (λ k. k) (out log) n x.0 x.1 in
      counts_from (e ∷ log) (without (λ k. k) n (out log)) (without (λ k. k) n (come log)) (accepted log) (redemptions log + 1) (λ u. times_redeemed u log + one_if (eqb u n))
      (rw (g, r) refl)
      (rw (b, r) refl)
      (rw g (omega arith))
      (rw r refl)
      (λ u. rw r refl)
      (distinct_without (λ k. k) (out log) n c.differ)
      (distinct_without (λ k. k) (come log) n c.come_differ)
      (omega (arith, c.sums))
      (λ u. ⊎_elim
      (λ is.
      let was_out : has u (out log) ≡ true = ap (λ k. has k (out log)) is ∙ is_out in
      let was : times_redeemed u log + 1 ≡ one_if (nat_le 1 u && nat_le u (accepted log)) = ap (λ k. times_redeemed u log + one_if k) (sym was_out) ∙ c.once u in
      rw (has_without (out log) n u c.differ, eq-eqb u n is) (omega arith))
      (λ not. rw (has_without (out log) n u c.differ, ne_eqb u n not) (omega (arith, c.once u)))
      (cases_eq u n))
      (λ u h. has_without (out log) n u c.differ ∙ go u (eqb u n) (sym (has_without (come log) n u c.come_differ) ∙ h))
    where
      go : (u : ℕ) (k : Bool) → cond k false (has u (come log)) ≡ true → cond k false (has u (out log)) ≡ true
      go u true h = h
      go u false h = c.come_out u h

  -- an event that does none of these
  counts_same : given_number e ≡ None → redeemed_number e ≡ None → brought_number e ≡ None → Counts (e ∷ log)
  counts_same g r b =
      counts_from (e ∷ log) (out log) (come log) (accepted log) (redemptions log) (λ u. times_redeemed u log)
      (rw (g, r) refl)
      (rw (b, r) refl)
      (rw g (omega arith))
      (rw r (omega arith))
      (λ u. rw r (omega arith))
      c.differ
      c.come_differ
      c.sums
      c.once
      c.come_out

-- a number that fails no check of its redeem is out
is_out_redeemed : (log : List Event) (n : ℕ) → failed_redeem log n ≡ None → has n (out log) ≡ true
is_out_redeemed log n e = go (has n (out log)) (cond (has n (come log)) None (Some 25)) e
  where
    go : (b : Bool) (t : Option ℕ) → cond b t (Some 24) ≡ None → b ≡ true
    go true t e = refl
    go false t e = absurd (none_some 24 (sym e))

-- they hold after each event that may come
pub counts_after : (o : Facts) (ration : ℕ) (log : List Event) (e : Event) → Counts log → May o ration log e → Counts (e ∷ log)
counts_after o ration log (Load size address (Ok n)) c may = counts_given log (Load size address (Ok n)) c (ap (λ k. Some k) may.1) refl refl
counts_after o ration log (Load size address (Err why)) c may = counts_same log (Load size address (Err why)) c refl refl refl
counts_after o ration log (Store size address value (Ok n)) c may = counts_given log (Store size address value (Ok n)) c (ap (λ k. Some k) may.1) refl refl
counts_after o ration log (Store size address value (Err why)) c may = counts_same log (Store size address value (Err why)) c refl refl refl
counts_after o ration log (Step None) c may = counts_same log (Step None) c refl refl refl
counts_after o ration log (Step (Some n)) c may = counts_brought log (Step (Some n)) c n refl refl refl may.0 may.1
counts_after o ration log (Redeem n (Ok answer)) c may = counts_redeemed log (Redeem n (Ok answer)) c n refl refl refl (is_out_redeemed log n may.0)
counts_after o ration log (Redeem n (Err why)) c may = counts_same log (Redeem n (Err why)) c refl refl refl
counts_after o ration log (Come outcome) c may = counts_same log (Come outcome) c refl refl refl
counts_after o ration log (Size outcome) c may = counts_same log (Size outcome) c refl refl refl
counts_after o ration log (RationLeft outcome) c may = counts_same log (RationLeft outcome) c refl refl refl
counts_after o ration log (OutCount outcome) c may = counts_same log (OutCount outcome) c refl refl refl
