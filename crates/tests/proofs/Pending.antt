-- a read that was taken and is still open, after a number of steps
use Rattle.std.proofs.Common.{◌≡◌, ◌≢◌, ℕ, ◌+◌, ◌<◌, ◌≤◌, List, is_some, Some, None, Option, sym, ap, ◌∙◌, arith}
use Rattle.memory.specs.Meaning.{Facts, Fixed, Open, Well, ReadAccepted, Silent, Answered, Shown}
use Rattle.memory.specs.Replies.{read_due, status_of, delivered}
use Rattle.tests.specs.Waiting.{Awaiting}
use Rattle.memory.specs.declared.replies.Answer.{Answer}
use Rattle.memory.specs.declared.replies.Reply.{Reply}

-- what is due to the read
abbrev pub reply_of : Facts → ℕ → Reply
reply_of s line = read_due (s.bad line) (s.contents line)

pub record Pending (s : Facts) (line ticket made : ℕ) (t : Facts) : Type 0 where
  pub awaiting : Awaiting s line ticket t
  pub due : t.due ticket ≡ Some (reply_of s line)
  pub paid : t.owed + made ≤ s.owed + s.pace

fixed_further : {s t u : Facts} → Fixed s t → Fixed t u → Fixed s u
fixed_further a b = record {
  lines_stay = b.lines_stay ∙ a.lines_stay;
  bad_stay = λ line. b.bad_stay line ∙ a.bad_stay line;
  pace_stays = b.pace_stays ∙ a.pace_stays;
}

pub begins : {s t : Facts} {line ticket : ℕ} → ReadAccepted s line ticket t → Pending s line ticket 0 t
begins h = record {
  awaiting = record { inside = h.inside; fresh = h.opens.fresh; fixed = h.fixed; contents_stay = h.contents_stay; others_stay = λ u other is. h.opens.others u other; raised = h.opens.raised };
  due = h.opens.opened;
  paid = let r = h.opens.raised in omega arith;
}

is_open : {s t : Facts} {line ticket made : ℕ} → Pending s line ticket made t → Open t ticket
is_open p = ap is_some p.due

-- while the read is open more steps are owed for it than were made
pub more_owed : {s t : Facts} {line ticket made : ℕ} → Pending s line ticket made t → Well t → made < s.owed + s.pace
more_owed {ticket = ticket} p w = let o = w.owing ticket (is_open p) in let q = p.paid in omega arith

-- an answer shows the reply that was due
shown_as : (reply : Reply) (a : Answer) (before after : List ℕ) (d : Option Reply) → d ≡ Some reply → Shown d a before after → (a.status ≡ status_of reply) × (after ≡ delivered reply before)
shown_as reply a before after None e h = absurd h
shown_as reply a before after (Some q) e h = let z : q ≡ reply = cc in (h.0 ∙ ap status_of z, h.1 ∙ ap (λ x. delivered x before) z)

module _ {s t u : Facts} {line ticket made : ℕ} {before after : List ℕ} (p : Pending s line ticket made t) where
  pub silent : Silent t before u after → Pending s line ticket (made + 1) u
  silent h = record {
    awaiting = record {
      inside = p.awaiting.inside;
      fresh = p.awaiting.fresh;
      fixed = fixed_further p.awaiting.fixed h.fixed;
      contents_stay = λ k. h.contents_stay k ∙ p.awaiting.contents_stay k;
      others_stay = λ k other is. h.due_stays k ∙ p.awaiting.others_stay k other (ap is_some (sym (h.due_stays k)) ∙ is);
      raised = let n = h.not_raised in let q = p.awaiting.raised in omega arith;
    };
    due = h.due_stays ticket ∙ p.due;
    paid = let l = h.lowered ticket (is_open p) in let q = p.paid in omega arith;
  }

  -- what is open after an answer, but for the read, is due what it was due
  answered_others : (a : Answer) → Answered t before a u after → (k : ℕ) → k ≢ ticket → Open u k → u.due k ≡ s.due k
  answered_others a h k other is =
      let unlike : k ≢ a.ticket = (λ e. let z : ◌≡◌ {A = ℕ} 0 1 = cc in omega arith) in
      h.others k unlike ∙ p.awaiting.others_stay k other (ap is_some (sym (h.others k unlike)) ∙ is)

  after_answer : (a : Answer) → Answered t before a u after → Awaiting s line ticket u
  after_answer a h = record {
    inside = p.awaiting.inside;
    fresh = p.awaiting.fresh;
    fixed = fixed_further p.awaiting.fixed h.fixed;
    contents_stay = λ k. h.contents_stay k ∙ p.awaiting.contents_stay k;
    others_stay = answered_others a h;
    raised = let l = h.lowered in let q = p.awaiting.raised in omega arith;
  }

  -- another request is answered
  pub other_answered : (a : Answer) → Answered t before a u after → a.ticket ≢ ticket → Pending s line ticket (made + 1) u
  other_answered a h other = record {
    awaiting = after_answer a h;
    due = h.others ticket (λ e. other (sym e)) ∙ p.due;
    paid = let l = h.lowered in let q = p.paid in omega arith;
  }

  -- the read is answered
  pub own_answered : (a : Answer) → Answered t before a u after → a.ticket ≡ ticket → Awaiting s line ticket u × (u.due ticket ≡ None) × (a.status ≡ status_of (reply_of s line)) × (after ≡ delivered (reply_of s line) before)
  own_answered a h same =
      let due : t.due a.ticket ≡ Some (reply_of s line) = ap t.due same ∙ p.due in
      let shown = shown_as (reply_of s line) a before after (t.due a.ticket) due h.shown in
      (after_answer a h, ap u.due (sym same) ∙ h.closed, shown.0, shown.1)
