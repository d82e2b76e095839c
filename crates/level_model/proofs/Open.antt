-- what is seen of a level from above: a request opened, one answered, or nothing
use Rattle.std.proofs.Common.{◌≡◌, ◌≢◌, ◌⊎◌, inl, inr, ℕ, ◌+◌, ◌<◌, ◌≤◌, Bool, true, false, cond, eqb, ltb, List, ◌∷◌, ◌++◌, is_some, Some, None, Option, Result, Ok, Err, sym, refl, ap, ◌∙◌, subst, arith, eqb-true}
use Rattle.std.proofs.lemmas.Bool.{ltb-true, ltb-false}
use Rattle.std.specs.Option.{option_map}
use Rattle.list.specs.Keyed.{entry_of}
use Rattle.memory.specs.Meaning.{Facts, Open, Fixed, ContentsStay, Unchanged, Opened, Refused, ReadMeans, WriteMeans, Shown, StepMeans}
use Rattle.memory.specs.Replies.{status_of, delivered}
use Rattle.memory.specs.declared.refusal.Refusal.{Refusal}
use Rattle.memory.specs.declared.replies.Answer.{Answer}
use Rattle.memory.specs.declared.replies.Reply.{Reply}
use Rattle.list.proofs.Entries.{none_each, entry_append, mid_found, mid_other}
use Rattle.level_model.specs.Facts.{due_in}
use Rattle.level_model.specs.Moves.{Shows}
use Rattle.level_model.specs.Registers.{ticket_of, reply_to, bytes_asked}
use Rattle.level_model.specs.declared.registers.Ask.{Ask}
use Rattle.level_model.specs.declared.registers.Ask.TheVariants.{Read, Write}
use Rattle.level_model.specs.declared.registers.Ready.{Ready}

-- a request is taken, whichever it is
pub record Accepted (s : Facts) (line : ℕ) (ask : Ask) (ticket : ℕ) (v : Facts) : Type 0 where
  pub inside : line < s.lines
  pub fixed : Fixed s v
  pub after : (k : ℕ) → v.contents k ≡ cond (eqb k line) (bytes_asked (s.bad line) (s.contents line) ask) (s.contents k)
  pub opens : Opened s ticket (reply_to (s.bad line) (s.contents line) ask) v

-- what a request means
abbrev pub AskMeans : Facts → ℕ → Ask → Result ℕ Refusal → Facts → Type 0
AskMeans s line Read r v = ReadMeans s line r v
AskMeans s line (Write mask new) r v = WriteMeans s line mask new r v

same_line : (contents : ℕ → List ℕ) (k line : ℕ) (b : Bool) → eqb k line ≡ b → cond b (contents line) (contents k) ≡ contents k
same_line contents k line true e = ap contents (sym (eqb-true k line e))
same_line contents k line false e = refl

pub accepted_means : (s v : Facts) (line ticket : ℕ) (ask : Ask) → Accepted s line ask ticket v → AskMeans s line ask (Ok ticket) v
accepted_means s v line ticket Read h = record {
  inside = h.inside;
  fixed = h.fixed;
  contents_stay = λ k. h.after k ∙ same_line s.contents k line (eqb k line) refl;
  opens = h.opens;
}
accepted_means s v line ticket (Write mask new) h = record {
  inside = h.inside;
  fixed = h.fixed;
  laid_on = h.after;
  opens = h.opens;
}

pub refused_means : (s v : Facts) (line : ℕ) (ask : Ask) (r : Refusal) → Refused s line r v → AskMeans s line ask (Err r) v
refused_means s v line Read r h = h
refused_means s v line (Write mask new) r h = h

pub fixed_same : (s : Facts) → Fixed s s
fixed_same s = record { lines_stay = refl; bad_stay = λ k. refl; pace_stays = refl }

pub unchanged_same : (s : Facts) → Unchanged s s
unchanged_same s = record { fixed = fixed_same s; contents_stay = λ k. refl; due_stays = λ u. refl; owed_stays = refl }

-- an entry comes to stand among those that are open
pub opened_among : (s v : Facts) (xs ys : List Ready) (ticket : ℕ) (reply : Reply)
    → ((u : ℕ) → s.due u ≡ due_in (xs ++ ys) u)
    → ((u : ℕ) → v.due u ≡ due_in (xs ++ (record { ticket = ticket; reply = reply } ∷ ys)) u)
    → entry_of ticket_of ticket (xs ++ ys) ≡ None
    → v.owed ≤ s.owed + s.pace
    → Opened s ticket reply v
opened_among s v xs ys ticket reply had has none raised =
    let e : Ready = record { ticket = ticket; reply = reply } in
    let first : entry_of ticket_of ticket xs ≡ None = (none_each (entry_of ticket_of ticket xs) (entry_of ticket_of ticket ys) (sym (entry_append ticket_of ticket xs ys) ∙ none)).0 in
    record {
      fresh = had ticket ∙ ap (option_map (λ (x : Ready). x.reply)) none;
      opened = has ticket ∙ ap (option_map (λ (x : Ready). x.reply)) (mid_found ticket_of xs ys e first);
      others = λ u other. has u ∙ ap (option_map (λ (x : Ready). x.reply)) (mid_other ticket_of xs ys e u other) ∙ sym (had u);
      raised = raised;
    }

-- nothing is seen to change, but for what is owed, which does not rise
pub record Calm (s v : Facts) : Type 0 where
  pub fixed : Fixed s v
  pub contents_stay : ContentsStay s v
  pub due_stays : (u : ℕ) → v.due u ≡ s.due u
  pub not_raised : v.owed ≤ s.owed

pub calm_same : (s : Facts) → Calm s s
calm_same s = record { fixed = fixed_same s; contents_stay = λ k. refl; due_stays = λ u. refl; not_raised = omega arith }

fixed_further : {s v w : Facts} → Fixed s v → Fixed v w → Fixed s w
fixed_further a b = record {
  lines_stay = b.lines_stay ∙ a.lines_stay;
  bad_stay = λ k. b.bad_stay k ∙ a.bad_stay k;
  pace_stays = b.pace_stays ∙ a.pace_stays;
}

pub calm_further : {s v w : Facts} → Calm s v → Calm v w → Calm s w
calm_further a b = record {
  fixed = fixed_further a.fixed b.fixed;
  contents_stay = λ k. b.contents_stay k ∙ a.contents_stay k;
  due_stays = λ u. b.due_stays u ∙ a.due_stays u;
  not_raised = let x = a.not_raised in let y = b.not_raised in omega arith;
}

-- the answer that has been ready longest leaves
pub record Left (s : Facts) (x : Ready) (v : Facts) : Type 0 where
  pub fixed : Fixed s v
  pub contents_stay : ContentsStay s v
  pub was_due : s.due x.ticket ≡ Some x.reply
  pub closed : v.due x.ticket ≡ None
  pub others : (u : ℕ) → u ≢ x.ticket → v.due u ≡ s.due u
  pub lowered : v.owed < s.owed

-- what a step comes to: an answer left and nothing else is seen, or nothing is seen
pub finish_some : (s v w : Facts) (x : Ready) (before after : List ℕ) (r : Option Answer) → Left s x v → Calm v w → Shows (Some x) before r after → StepMeans s before r w after
finish_some s v w x before after r p c told =
    subst (λ z. StepMeans s before z w after) (sym told.0) record {
      fixed = fixed_further p.fixed c.fixed;
      contents_stay = λ k. c.contents_stay k ∙ p.contents_stay k;
      shown = rw p.was_due (refl, told.1);
      closed = c.due_stays x.ticket ∙ p.closed;
      others = λ u other. c.due_stays u ∙ p.others u other;
      lowered = let a = c.not_raised in let b = p.lowered in omega arith;
    }

pub finish_none : (s w : Facts) (before after : List ℕ) (r : Option Answer) → Calm s w → ((u : ℕ) → Open s u → w.owed < s.owed) → Shows None before r after → StepMeans s before r w after
finish_none s w before after r c lowered told =
    subst (λ z. StepMeans s before z w after) (sym told.0) record {
      fixed = c.fixed;
      contents_stay = c.contents_stay;
      due_stays = c.due_stays;
      not_raised = c.not_raised;
      lowered = lowered;
      buffer_stays = told.1;
    }

-- a step lowers what is owed, or nothing is open
pub falls_or_idle : (f h : Facts) (before after : List ℕ) (r : Option Answer) → StepMeans f before r h after → (h.owed < f.owed) ⊎ ((r ≡ None) × ((u : ℕ) → h.due u ≡ None))
falls_or_idle f h before after (Some a) m = inl m.lowered
falls_or_idle f h before after None m = go (ltb h.owed f.owed) refl
  where
    none : (h.owed < f.owed → ⊥) → (u : ℕ) (d : Option Reply) → f.due u ≡ d → h.due u ≡ None
    none n u None e = m.due_stays u ∙ e
    none n u (Some reply) e = absurd (n (m.lowered u (ap is_some e)))

    go : (b : Bool) → ltb h.owed f.owed ≡ b → (h.owed < f.owed) ⊎ ((◌≡◌ {A = Option Answer} None None) × ((u : ℕ) → h.due u ≡ None))
    go true e = inl (ltb-true h.owed f.owed e)
    go false e = inr (refl, λ u. none (λ l. let n = ltb-false h.owed f.owed e in omega arith) u (f.due u) refl)

-- an answer shows the reply that was due
pub shown_as : (reply : Reply) (a : Answer) (before after : List ℕ) (d : Option Reply) → d ≡ Some reply → Shown d a before after → (a.status ≡ status_of reply) × (after ≡ delivered reply before)
shown_as reply a before after None e h = absurd h
shown_as reply a before after (Some q) e h = let z : q ≡ reply = cc in (h.0 ∙ ap status_of z, h.1 ∙ ap (λ x. delivered x before) z)

-- where nothing is open no ticket is
pub not_open_idle : (f : Facts) → ((u : ℕ) → f.due u ≡ None) → (u : ℕ) → Open f u → ⊥
not_open_idle f none u o = let z : is_some (f.due u) ≡ false = ap is_some (none u) in let y : ◌≡◌ {A = ℕ} 0 1 = cc in omega arith
