-- what holds of a line, while the memory below and the tables change elsewhere
use Rattle.std.proofs.Common.{◌≡◌, ◌≢◌, ℕ, ◌<◌, ◌≤◌, true, false, List, length, is_some, Some, None, Option, sym, refl, ap, ◌∙◌, subst, arith}
use Rattle.memory.specs.Meaning.{Facts}
use Rattle.memory.specs.Replies.{read_due}
use Rattle.list.proofs.Entries.{none_some}
use Rattle.level_model.specs.Kept.{GoodLine, ConditionKept, WayKept, QueuedKept, ProgressKept, RegisterKept, sent_ticket, LineKept}
use Rattle.level_model.specs.Registers.{sent_in}
use Rattle.level_model.specs.Ways.{is_reserved}
use Rattle.level_model.specs.declared.registers.Progress.{Progress}
use Rattle.level_model.specs.declared.registers.Progress.TheVariants.{Waiting, Sent}
use Rattle.level_model.specs.declared.registers.QueuedLine.{QueuedLine}
use Rattle.level_model.specs.declared.registers.Register.{Register}
use Rattle.level_model.specs.declared.ways.CachedLine.{CachedLine}
use Rattle.level_model.specs.declared.ways.Condition.{Condition}
use Rattle.level_model.specs.declared.ways.Condition.TheVariants.{Clean, Dirty}
use Rattle.level_model.specs.declared.ways.Way.{Way}
use Rattle.level_model.specs.declared.ways.Way.TheVariants.{Empty, Reserved, Filled}

condition_same : (c : Condition) (bytes had has : List ℕ) → has ≡ had → ConditionKept c bytes had → ConditionKept c bytes has
condition_same Clean bytes had has e s = s ∙ sym e
condition_same Dirty bytes had has e s = tt

-- the memory below has the same lines, the same fault of this one and the same bytes in it
module _ (f h : Facts) (k : ℕ) (lines_stay : h.lines ≡ f.lines) (bad_stays : h.bad k ≡ f.bad k) where
  pub good_same : (bytes : List ℕ) → GoodLine f k bytes → GoodLine h k bytes
  good_same bytes s = (rw lines_stay s.0, bad_stays ∙ s.1, s.2)

  pub queued_same : (q : Option QueuedLine) → QueuedKept f k q → QueuedKept h k q
  queued_same None s = tt
  queued_same (Some q) s = good_same q.bytes s

  module _ (stays : h.contents k ≡ f.contents k) where
    way_same : (w : Way) (q : Option QueuedLine) (r : Option Register) → WayKept f k w q r → WayKept h k w q r
    way_same Empty q r s = tt
    way_same (Reserved j) q r s = tt
    way_same (Filled held) q r s = (good_same held.bytes s.0, condition_same held.condition held.bytes (f.contents k) (h.contents k) stays s.1, s.2, s.3)

    progress_same : (p : Progress) (q : Option QueuedLine) → ((ticket : ℕ) → sent_in p ≡ Some ticket → h.due ticket ≡ f.due ticket) → ProgressKept f k p q → ProgressKept h k p q
    progress_same Waiting q due s = tt
    progress_same (Sent ticket) q due s = (s.0, due ticket refl ∙ s.1 ∙ rw (bad_stays, stays) refl)

    register_same : (r : Option Register) (q : Option QueuedLine) → ((ticket : ℕ) → sent_ticket r ≡ Some ticket → h.due ticket ≡ f.due ticket) → RegisterKept f k r q → RegisterKept h k r q
    register_same None q due s = tt
    register_same (Some r) q due s = (rw lines_stay s.0, s.1, progress_same r.progress q due s.2)

    -- then what held of the line holds, if what its register was sent for is still due
    pub line_same : (w : Way) (q : Option QueuedLine) (r : Option Register) → ((ticket : ℕ) → sent_ticket r ≡ Some ticket → h.due ticket ≡ f.due ticket) → LineKept f k w q r → LineKept h k w q r
    line_same w q r due s = record {
      way_kept = way_same w q r s.way_kept;
      queued_kept = queued_same q s.queued_kept;
      register_kept = register_same r q due s.register_kept;
      reserved = s.reserved;
    }

-- the same way, entry and register of a line under other names
pub line_found : (f : Facts) (k : ℕ) (w v : Way) (q p : Option QueuedLine) (r s : Option Register) → v ≡ w → p ≡ q → s ≡ r → LineKept f k w q r → LineKept f k v p s
line_found f k w v q p r s ew eq er kept =
    subst (λ x. LineKept f k x p s) (sym ew) (subst (λ x. LineKept f k w x s) (sym eq) (subst (λ x. LineKept f k w q x) (sym er) kept))

module _ (f : Facts) (k : ℕ) (w : Way) (q : Option QueuedLine) (r : Option Register) (kept : LineKept f k w q r) where
  -- what holds of a line in a way
  pub filled_kept : (held : CachedLine) → w ≡ Filled held → GoodLine f k held.bytes × ConditionKept held.condition held.bytes (f.contents k) × (q ≡ None) × (r ≡ None)
  filled_kept held e = subst (λ x. WayKept f k x q r) e kept.way_kept

  -- of one in the queue
  pub queue_kept : (x : QueuedLine) → q ≡ Some x → GoodLine f k x.bytes
  queue_kept x e = subst (λ y. QueuedKept f k y) e kept.queued_kept

  -- and of one with a register
  pub awaited_kept : (x : Register) → r ≡ Some x → (k < f.lines) × (1 ≤ length x.targets.items) × ProgressKept f k x.progress q
  awaited_kept x e = subst (λ y. RegisterKept f k y q) e kept.register_kept

  -- a line with a register is in no way
  pub register_not_filled : (x : Register) → r ≡ Some x → (held : CachedLine) → w ≡ Filled held → ⊥
  register_not_filled x e held ew = none_some x (sym (filled_kept held ew).3 ∙ e)

  -- nor is one in the queue
  pub queued_not_filled : (x : QueuedLine) → q ≡ Some x → (held : CachedLine) → w ≡ Filled held → ⊥
  queued_not_filled x e held ew = none_some x (sym (filled_kept held ew).2 ∙ e)

  -- what a register was sent for is due, and its line is not queued
  pub sent_kept : (ticket : ℕ) → sent_ticket r ≡ Some ticket → (q ≡ None) × (f.due ticket ≡ Some (read_due (f.bad k) (f.contents k)))
  sent_kept ticket e = go r e kept.register_kept
    where
      at : (p : Progress) → sent_in p ≡ Some ticket → ProgressKept f k p q → (q ≡ None) × (f.due ticket ≡ Some (read_due (f.bad k) (f.contents k)))
      at Waiting e s = absurd (none_some ticket e)
      at (Sent n) e s = let z : n ≡ ticket = cc in (s.0, ap f.due (sym z) ∙ s.1)

      go : (x : Option Register) → sent_ticket x ≡ Some ticket → RegisterKept f k x q → (q ≡ None) × (f.due ticket ≡ Some (read_due (f.bad k) (f.contents k)))
      go None e s = absurd (none_some ticket e)
      go (Some x) e s = at x.progress e s.2

  -- a ticket that is not open below is no sent register's
  pub not_sent_under : (ticket other : ℕ) → f.due ticket ≡ None → sent_ticket r ≡ Some other → other ≢ ticket
  not_sent_under ticket other fresh e same = none_some _ (sym fresh ∙ ap f.due (sym same) ∙ (sent_kept other e).1)

  -- a way that is reserved, if the register was sent
  pub reserved_by : (ticket : ℕ) → sent_ticket r ≡ Some ticket → is_reserved w ≡ true
  reserved_by ticket e = kept.reserved ∙ ap is_some e

  -- a line that is in no way and whose register was not sent has no way
  pub no_way : ((held : CachedLine) → w ≡ Filled held → ⊥) → sent_ticket r ≡ None → w ≡ Empty
  no_way not_filled e = go w refl (kept.reserved ∙ ap is_some e)
    where
      go : (x : Way) → w ≡ x → is_reserved x ≡ false → x ≡ Empty
      go Empty ew z = refl
      go (Reserved j) ew z = absurd (let y : ◌≡◌ {A = ℕ} 0 1 = cc in omega arith)
      go (Filled held) ew z = absurd (not_filled held ew)
