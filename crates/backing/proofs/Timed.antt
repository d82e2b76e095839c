-- a memory on a backing store does what a memory means, whatever times it
use Rattle.std.proofs.Common.{◌≡◌, ℕ, zero, suc, ◌+◌, ◌<◌, ◌≤◌, true, List, [], ◌∷◌, ◌++◌, length, is_some, Some, None, Ok, Err, Option, Result, refl, ap, ◌∙◌, arith, eq-eqb}
use Rattle.backing.proofs.Paces.{Falls, Paced}
use Rattle.backing.proofs.Written.{inside, lines_written, contents_written}
use Rattle.backing.specs.Backing.{image_of, open_requests, Reads, Writes, AnswersOne, AnswersAt}
use Rattle.backing.specs.Facts.{facts_with, facts_on}
use Rattle.backing.specs.Image.{line_count, contents_of, fault_of, image_written}
use Rattle.backing.specs.Open.{ticket_of, request_of, due_of, with_request}
use Rattle.backing.specs.declared.backing.Backing.{Backing}
use Rattle.backing.specs.declared.image.Image.{Image}
use Rattle.backing.specs.declared.requests.Request.{Request}
use Rattle.line.proofs.Images.{whole_line}
use Rattle.list.proofs.Distinct.{push_found, push_other, without_other, gone, found_by_key, shorter}
use Rattle.list.specs.Keyed.{without, Distinct}
use Rattle.memory.specs.Laws.{Laws}
use Rattle.memory.specs.Meaning.{Facts, Well, Opened, Unchanged, Refused, ReadMeans, WriteMeans, Silent, Answered, StepMeans}
use Rattle.memory.specs.Replies.{read_due, write_due, status_of, delivered}
use Rattle.memory.specs.declared.refusal.Refusal.{Refusal}
use Rattle.memory.specs.declared.refusal.Refusal.TheVariants.{NoLine, Busy}
use Rattle.memory.specs.declared.replies.Answer.{Answer}
use Rattle.memory.specs.declared.replies.Reply.{Reply}
use Rattle.std.proofs.lemmas.List.{length_push}
use Rattle.std.specs.List.{slice_get}
use Rattle.std.specs.Option.{option_map}

-- a ticket is open only if some request is
some_open : (requests : List Request) (ticket : ℕ) → is_some (due_of requests ticket) ≡ true → 1 ≤ length requests
some_open [] ticket h = absurd (let z : ◌≡◌ {A = ℕ} 0 1 = cc in omega arith)
some_open (request ∷ requests) ticket h = omega arith

-- the oldest request's ticket is open
oldest_open : (requests : List Request) → 1 ≤ length requests → (ticket : ℕ) × (is_some (due_of requests ticket) ≡ true)
oldest_open [] h = absurd (omega arith)
oldest_open (request ∷ requests) h = (request.ticket, rw (eq-eqb request.ticket request.ticket refl) refl)

unchanged : (f : Facts) → Unchanged f f
unchanged f = record {
  fixed = record { lines_stay = refl; bad_stay = λ line. refl; pace_stays = refl };
  contents_stay = λ line. refl;
  due_stays = λ ticket. refl;
  owed_stays = refl;
}

-- a request that is taken is open, with its reply due
opened : (image image_then : Image) (requests : List Request) (owed owed_then pace ticket : ℕ) (reply : Reply) → request_of ticket requests ≡ None → owed_then ≤ owed + pace → Opened (facts_with image requests owed pace) ticket reply (facts_with image_then (with_request requests ticket reply) owed_then pace)
opened image image_then requests owed owed_then pace ticket reply fresh raised =
    let request : Request = record { ticket = ticket; reply = reply } in
    record {
      fresh = ap (option_map (λ q. q.reply)) fresh;
      opened = ap (option_map (λ q. q.reply)) (push_found ticket_of requests request fresh);
      others = λ u other. ap (option_map (λ q. q.reply)) (push_other ticket_of requests request u other);
      raised = raised;
    }

-- a step that answers nothing
silent : (image : Image) (requests : List Request) (owed owed_then pace : ℕ) (buffer : List ℕ) → owed_then ≤ owed → (1 ≤ length requests → owed_then < owed) → Silent (facts_with image requests owed pace) buffer (facts_with image requests owed_then pace) buffer
silent image requests owed owed_then pace buffer most less = record {
  fixed = record { lines_stay = refl; bad_stay = λ k. refl; pace_stays = refl };
  contents_stay = λ k. refl;
  due_stays = λ u. refl;
  not_raised = most;
  lowered = λ ticket h. less (some_open requests ticket h);
  buffer_stays = refl;
}

-- a step that answers a request
answered : (image : Image) (requests : List Request) (request : Request) (owed owed_then pace : ℕ) (buffer : List ℕ) → Distinct ticket_of requests → due_of requests request.ticket ≡ Some request.reply → owed_then < owed → Answered (facts_with image requests owed pace) buffer (record { ticket = request.ticket; status = status_of request.reply }) (facts_with image (without ticket_of request.ticket requests) owed_then pace) (delivered request.reply buffer)
answered image requests request owed owed_then pace buffer differ due less = record {
  fixed = record { lines_stay = refl; bad_stay = λ k. refl; pace_stays = refl };
  contents_stay = λ k. refl;
  shown = rw due (refl, refl);
  closed = ap (option_map (λ q. q.reply)) (gone ticket_of requests request.ticket differ);
  others = λ u other. ap (option_map (λ q. q.reply)) (without_other ticket_of requests u request.ticket other);
  lowered = less;
}

one : (n : ℕ) → n + 1 ≡ suc n
one n = omega arith

-- a request stands at each index within the list
there : (requests : List Request) (i : ℕ) → i < length requests → slice_get requests i ≡ None → ⊥
there [] i h e = omega arith
there (request ∷ requests) zero h e = let z : ◌≡◌ {A = ℕ} 0 1 = cc in omega arith
there (request ∷ requests) (suc i) h e = there requests i (omega arith) e

-- memories of one kind: each has a backing store and a timer
module _ {S Timer : Type 0} {limit : ℕ} (backing : S → Backing limit) (timer : S → Timer) (owed : Timer → ℕ → ℕ) (pace : Timer → ℕ) (answers : Timer → ℕ → Option ℕ) (Steps : Timer → ℕ → Timer → Type 0) where
  abbrev open_count : S → ℕ
  open_count s = length (open_requests (backing s))

  abbrev pub timed_facts : S → Facts
  timed_facts s = facts_on (backing s) (owed (timer s) (open_count s)) (pace (timer s))

  abbrev pub TimedReads : ℕ → S → ℕ → Result ℕ Refusal → S → Type 0
  TimedReads most s line r t = Reads most (backing s) line r (backing t) × (timer t ≡ timer s)

  abbrev pub TimedWrites : ℕ → S → ℕ → ℕ → List ℕ → Result ℕ Refusal → S → Type 0
  TimedWrites most s line mask new r t = Writes most (backing s) line mask new r (backing t) × (timer t ≡ timer s)

  abbrev pub TimedSteps : S → List ℕ → Option Answer → S → List ℕ → Type 0
  TimedSteps s before r t after = AnswersAt (answers (timer s) (open_count s)) (backing s) before r (backing t) after × Steps (timer s) (open_count s) (timer t)

  module _ (kept : Paced owed pace answers Steps) where
    timed_well : (s : S) → Well (timed_facts s)
    timed_well s = record {
      few = omega arith;
      whole = λ line h. whole_line (image_of (backing s)).bytes.now line (inside (image_of (backing s)) line h);
      paced = kept.paced (timer s);
      owing = λ ticket h. some_owed (open_count s) (some_open (open_requests (backing s)) ticket h);
    }
      where
        some_owed : (n : ℕ) → 1 ≤ n → 1 ≤ owed (timer s) n
        some_owed zero h = absurd (omega arith)
        some_owed (suc m) h = kept.owing (timer s) m

    more : (c : Timer) (requests : List Request) (request : Request) → owed c (length (requests ++ (request ∷ []))) ≤ owed c (length requests) + pace c
    more c requests request = rw (length_push requests request ∙ one (length requests)) (kept.raises c (length requests))

    -- a request that is refused
    no_line : (s t : S) (line : ℕ) → (line_count (image_of (backing s)) ≤ line) × (backing t ≡ backing s) → timer t ≡ timer s → Refused (timed_facts s) line NoLine (timed_facts t)
    no_line s t line h same = rw (h.1, same) (h.0, unchanged (timed_facts s))

    busy : (most : ℕ) → 1 ≤ most → (s t : S) (line : ℕ) → (line < line_count (image_of (backing s))) × (open_count s ≡ most) × (backing t ≡ backing s) → timer t ≡ timer s → Refused (timed_facts s) line Busy (timed_facts t)
    busy most some s t line h same = rw (h.2, same) (h.0, oldest_open (open_requests (backing s)) (rw h.1 some), unchanged (timed_facts s))

    timed_reading : (most : ℕ) → 1 ≤ most → (s t : S) (line : ℕ) (r : Result ℕ Refusal) → TimedReads most s line r t → ReadMeans (timed_facts s) line r (timed_facts t)
    timed_reading most some s t line (Ok ticket) h =
        let image = image_of (backing s) in
        let requests = open_requests (backing s) in
        let reply = read_due (fault_of image line) (contents_of image line) in
        let request : Request = record { ticket = ticket; reply = reply } in
        rw (h.0.3, h.0.4, h.1) (record {
          inside = h.0.0;
          fixed = record { lines_stay = refl; bad_stay = λ k. refl; pace_stays = refl };
          contents_stay = λ k. refl;
          opens = opened image image requests (owed (timer s) (length requests)) (owed (timer s) (length (with_request requests ticket reply))) (pace (timer s)) ticket reply h.0.2 (more (timer s) requests request);
        })
    timed_reading most some s t line (Err NoLine) h = no_line s t line h.0 h.1
    timed_reading most some s t line (Err Busy) h = busy most some s t line h.0 h.1

    timed_writing : (most : ℕ) → 1 ≤ most → (s t : S) (line mask : ℕ) (new : List ℕ) (r : Result ℕ Refusal) → TimedWrites most s line mask new r t → WriteMeans (timed_facts s) line mask new r (timed_facts t)
    timed_writing most some s t line mask new (Ok ticket) h =
        let image = image_of (backing s) in
        let requests = open_requests (backing s) in
        let reply = write_due (fault_of image line) in
        let request : Request = record { ticket = ticket; reply = reply } in
        rw (h.0.3, h.0.4, h.1) (record {
          inside = h.0.0;
          fixed = record { lines_stay = lines_written image line mask new h.0.0; bad_stay = λ k. refl; pace_stays = refl };
          laid_on = contents_written image line mask new h.0.0;
          opens = opened image (image_written image line mask new) requests (owed (timer s) (length requests)) (owed (timer s) (length (with_request requests ticket reply))) (pace (timer s)) ticket reply h.0.2 (more (timer s) requests request);
        })
    timed_writing most some s t line mask new (Err NoLine) h = no_line s t line h.0 h.1
    timed_writing most some s t line mask new (Err Busy) h = busy most some s t line h.0 h.1

    stepping : (s t : S) (before after : List ℕ) (r : Option Answer) (index : Option ℕ) → AnswersAt index (backing s) before r (backing t) after → (pace (timer t) ≡ pace (timer s)) × Falls (owed (timer s)) (owed (timer t)) (open_count s) index → StepMeans (timed_facts s) before r (timed_facts t) after
    stepping s t before after r None h falls =
        rw (h.0, h.1, h.2, falls.0) (silent (image_of (backing s)) (open_requests (backing s)) (owed (timer s) (open_count s)) (owed (timer t) (open_count s)) (pace (timer s)) before falls.1.0 falls.1.1)
    stepping s t before after r (Some i) h falls = go (slice_get (open_requests (backing s)) i) refl h
      where
        go : (chosen : Option Request) → slice_get (open_requests (backing s)) i ≡ chosen → AnswersOne chosen (backing s) before r (backing t) after → StepMeans (timed_facts s) before r (timed_facts t) after
        go None e h = absurd (there (open_requests (backing s)) i falls.1.0 e)
        go (Some request) e h =
            let requests = open_requests (backing s) in
            let differ = (backing s).requests.differ in
            let found = found_by_key ticket_of requests i request differ e in
            let due : due_of requests request.ticket ≡ Some request.reply = ap (option_map (λ q. q.reply)) found in
            let left = length (without ticket_of request.ticket requests) in
            let less = falls.1.1 left (shorter ticket_of requests request.ticket request found) in
            rw (h.0, h.1, h.2, h.3, falls.0) (answered (image_of (backing s)) requests request (owed (timer s) (length requests)) (owed (timer t) left) (pace (timer s)) before differ due less)

    -- such a memory keeps the laws of a memory
    pub timed_laws : (most : ℕ) → 1 ≤ most → Laws timed_facts (TimedReads most) (TimedWrites most) TimedSteps
    timed_laws most some = record {
      well = timed_well;
      reading = timed_reading most some;
      writing = timed_writing most some;
      stepping = λ s t before after r moved. stepping s t before after r (answers (timer s) (open_count s)) moved.0 (kept.falls (timer s) (timer t) (open_count s) moved.1);
    }
