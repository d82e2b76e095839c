-- requests that are accepted, and numbers that are redeemed
use Rattle.std.proofs.Common.{◌≡◌, ◌≢◌, ℕ, zero, suc, ◌+◌, ◌-◌, ◌*◌, ◌/◌, ◌%◌, ◌<◌, ◌≤◌, Bool, true, false, cond, not, List, [], ◌∷◌, ◌++◌, length, map, is_none, ◌&&◌, slice_index, Some, None, Option, Ok, Err, sym, refl, ap, ap₂, ◌∙◌, subst, append-nil, arith, eq-eqb, ne_eqb}
use Rattle.std.specs.Prelude.{filter, nat_le, IsPermutation}
use Rattle.std.proofs.lemmas.List.{map-append}
use Rattle.std.proofs.lemmas.List.Sorted.{IsPermutation-pop_more}
use Rattle.line.specs.Size.{line_size}
use Rattle.line.specs.Values.{covers, low_bytes}
use Rattle.list.proofs.Entries.{none_some}
use Rattle.list.specs.Keyed.{without}
use Rattle.memory.specs.Meaning.{Facts}
use Rattle.memory.specs.declared.bad_line.BadLine.{BadLine}
use Rattle.player.specs.Lines.{answer_line}
use Rattle.playing.proofs.Lists.{permutation_grows, map_without_permutes, map_same, filter_yes, filter_no}
use Rattle.playing.proofs.Records.{behind_more, answers_more, shown_more, answer_letter}
use Rattle.playing.proofs.Stands.{Opened, Told, behind, line_due, due_line}
use Rattle.playing.specs.Agreement.{answers_request, cut_lines}
use Rattle.playing.specs.Requests.{Before, at_start, refused_by, refusal, bad_fault_at, stored, after_request, answer_if, item_answers, answers_of, refused_if, item_shown, shown_of}
use Rattle.port.proofs.Bytes.{load_inside}
use Rattle.port.proofs.Lists.{true_false}
use Rattle.port.proofs.Logs.{Counts, not_out_yet}
use Rattle.port.specs.Answers.{load_shows, store_shows}
use Rattle.port.specs.Limits.{largest_ration, most_out}
use Rattle.port.specs.Promise.{fault_at, flat, value_from, due_to, accepted, has, out, failed_check}
use Rattle.port.specs.Requests.{Verdict, unlawful_code, load_verdict, store_verdict}
use Rattle.port.specs.declared.answer.Redeemed.{Redeemed}
use Rattle.port.specs.declared.event.Event.{Event}
use Rattle.port.specs.declared.event.Event.TheVariants.{Load, Store, Redeem}
use Rattle.trace.specs.Items.{Item, load, store}
use Rattle.trace.specs.declared.refusal.Refusal.{Refusal}

-- where neither the ration nor what is checked behind it refuses, the ration does not
first_free : (b : Bool) (r : Option ℕ) → cond {A = Option ℕ} b (Some 22) r ≡ None → cond {A = Option ℕ} b (Some 22) None ≡ None
first_free true r e = e
first_free false r e = refl

-- a request that fails no check is not refused
not_refused : (log : List Event) (verdict : Verdict) → failed_check largest_ration log verdict ≡ None → refused_by (accepted log) verdict ≡ None
not_refused log (Err why) e = e
not_refused log (Ok lawful) e = first_free (nat_le largest_ration (accepted log)) (cond (nat_le most_out (length (out log))) (Some 21) None) e

-- and it is lawful
lawful_is : (log : List Event) (verdict : Verdict) → failed_check largest_ration log verdict ≡ None → verdict ≡ Ok tt
lawful_is log (Err why) e = absurd (none_some (unlawful_code why) (sym e))
lawful_is log (Ok lawful) e = refl

-- where two memories agree below a bound, so do the values that lie below it
value_same : (f g : ℕ → ℕ) (bound address size : ℕ) → ((a : ℕ) → a < bound → f a ≡ g a) → address + size ≤ bound → value_from f address size ≡ value_from g address size
value_same f g bound address zero same within = refl
value_same f g bound address (suc size) same within = ap₂ (λ x y. x + 256 * y) (same address (omega arith)) (value_same f g bound (address + 1) size same (omega arith))

module _ (lines : ℕ) (bad_lines : List BadLine) (o : Facts) (opened : Opened lines bad_lines o) (log : List Event) (counts : Counts log) where
  -- a number whose answer is given is answered: its line is written
  pub told_redeemed : {written : List (List ℕ)} {items : List Item} {cut : Option Refusal} (number : ℕ) (answer : Redeemed) → has number (out log) ≡ true → due_to o log number ≡ Some answer → Told lines bad_lines o written items cut log → Told lines bad_lines o (written ++ (answer_line number answer ∷ [])) items cut (Redeem number (Ok answer) ∷ log)
  told_redeemed {written} {items} {cut} number answer is_out due told =
      let line : List ℕ = answer_line number answer in
      let letter : answers_request line ≡ true = answer_letter number answer in
      let rest : List ℕ = without (λ k. k) number (out log) in
      let leaves : IsPermutation (map (due_line o log) (out log)) (line ∷ map (due_line o log) rest) =
      subst (λ k. IsPermutation (map (due_line o log) (out log)) (line_due number k ∷ map (due_line o log) rest)) due (map_without_permutes (due_line o log) (out log) number is_out) in
      record {
        accepted_is = omega (arith, told.accepted_is);
        flat_is = λ a l. told.flat_is a l;
        answers =
            subst
            (λ k. IsPermutation (answers_of lines bad_lines at_start items) (k ++ map (due_line o log) rest))
            (sym (filter_yes answers_request written line letter))
            (IsPermutation-pop_more _ (filter answers_request written) (map (due_line o log) (out log)) (map (due_line o log) rest) line told.answers leaves);
        others = filter_no (λ l. not (answers_request l)) written line (ap not letter) ∙ told.others;
      }

  -- a request that is accepted is answered by one line more, which is due to its number
  due_more :
      (e : Event) (number : ℕ) (done : List (List ℕ)) (items : List Item) (item : Item)
      → out (e ∷ log) ≡ out log ++ (number ∷ [])
      → ((u : ℕ) → u ≢ number → due_to o (e ∷ log) u ≡ due_to o log u)
      → number ≡ accepted log + 1
      → item_answers lines bad_lines (behind lines bad_lines at_start items) item ≡ due_line o (e ∷ log) number ∷ []
      → IsPermutation (answers_of lines bad_lines at_start items) (done ++ map (due_line o log) (out log))
      → IsPermutation (answers_of lines bad_lines at_start (items ++ (item ∷ []))) (done ++ map (due_line o (e ∷ log)) (out (e ∷ log)))
  due_more e number done items item outs others next shows was =
      let line : List ℕ = due_line o (e ∷ log) number in
      let fresh : has number (out log) ≡ false = not_out_yet log counts number (omega arith) in
      let apart : (u : ℕ) → has u (out log) ≡ true → u ≢ number = (λ u h z. true_false (sym h ∙ ap (λ k. has k (out log)) z ∙ fresh)) in
      let old : map (due_line o (e ∷ log)) (out log) ≡ map (due_line o log) (out log) = map_same (due_line o (e ∷ log)) (due_line o log) (out log) (λ u h. ap (line_due u) (others u (apart u h))) in
      let due : map (due_line o (e ∷ log)) (out (e ∷ log)) ≡ map (due_line o log) (out log) ++ (line ∷ []) =
      ap (map (due_line o (e ∷ log))) outs ∙ map-append (due_line o (e ∷ log)) (out log) (number ∷ []) ∙ ap (λ xs. xs ++ (line ∷ [])) old in
      let all : answers_of lines bad_lines at_start (items ++ (item ∷ [])) ≡ answers_of lines bad_lines at_start items ++ (line ∷ []) =
      answers_more lines bad_lines at_start items item ∙ ap (λ xs. answers_of lines bad_lines at_start items ++ xs) shows in
      subst
      (λ xs. IsPermutation xs (done ++ map (due_line o (e ∷ log)) (out (e ∷ log))))
      (sym all)
      (subst
      (λ ys. IsPermutation (answers_of lines bad_lines at_start items ++ (line ∷ [])) (done ++ ys))
      (sym due)
      (permutation_grows (answers_of lines bad_lines at_start items) done (map (due_line o log) (out log)) line was))

  -- a record that shows nothing by itself leaves the other lines as they are
  others_stay :
      (shown : List (List ℕ)) (items : List Item) (item : Item)
      → item_shown lines bad_lines (1 + length items) (behind lines bad_lines at_start items).accepted item ≡ []
      → shown ≡ shown_of lines bad_lines 1 at_start items ++ cut_lines (length items + 1) None
      → shown ≡ shown_of lines bad_lines 1 at_start (items ++ (item ∷ [])) ++ cut_lines (length (items ++ (item ∷ [])) + 1) None
  others_stay shown items item none was =
      let more : shown_of lines bad_lines 1 at_start (items ++ (item ∷ [])) ≡ shown_of lines bad_lines 1 at_start items =
      shown_more lines bad_lines 1 at_start items item ∙ ap (λ xs. shown_of lines bad_lines 1 at_start items ++ xs) none ∙ append-nil (shown_of lines bad_lines 1 at_start items) in
      was ∙ ap (λ xs. xs ++ []) (sym more)

  -- a load that is accepted: nothing refuses it, and what flat memory has now is due to it
  pub told_loaded : {written : List (List ℕ)} {items : List Item} (size address number : ℕ) → number ≡ accepted log + 1 → failed_check largest_ration log (load_verdict lines size address) ≡ None → Told lines bad_lines o written items None log → Told lines bad_lines o written (items ++ (load size address ∷ [])) None (Load size address (Ok number) ∷ log)
  told_loaded {written} {items} size address number next passes told =
      let b : Before = behind lines bad_lines at_start items in
      let free : refusal lines bad_lines b.accepted (load size address) ≡ None =
      ap (λ k. refused_by k (load_verdict lines size address)) (sym told.accepted_is) ∙ not_refused log (load_verdict lines size address) passes in
      let place : (address / 16 < lines) × (address % 16 + size ≤ 16) = load_inside lines size address (lawful_is log (load_verdict lines size address) passes) in
      let within : address + size ≤ line_size * lines = let line_ends = place.0 in let ends = place.1 in omega arith in
      let now : behind lines bad_lines at_start (items ++ (load size address ∷ [])) ≡ record { bytes = b.bytes; accepted = b.accepted + 1 } =
      behind_more lines bad_lines at_start items (load size address) ∙ ap (λ r. after_request lines bad_lines r b.bytes b) free in
      let shows : Redeemed = load_shows (fault_at o address) (value_from (flat o log) address size) in
      let own : due_line o (Load size address (Ok number) ∷ log) number ≡ answer_line number shows =
      ap (λ t. line_due number (cond t (Some shows) (due_to o log number))) (eq-eqb number number refl) in
      let counted : b.accepted + 1 ≡ number = omega (arith, told.accepted_is, next) in
      let value : value_from b.bytes address size ≡ value_from (flat o log) address size =
      value_same b.bytes (flat o log) (line_size * lines) address size (λ a l. sym (told.flat_is a l)) within in
      let answer : item_answers lines bad_lines b (load size address) ≡ due_line o (Load size address (Ok number) ∷ log) number ∷ [] =
      ap (λ r. answer_if lines bad_lines r (answer_line (b.accepted + 1) (load_shows (bad_fault_at lines bad_lines address) (value_from b.bytes address size)))) free
      ∙ ap (λ n. answer_line n (load_shows (bad_fault_at lines bad_lines address) (value_from b.bytes address size)) ∷ []) counted
      ∙ ap (λ f. answer_line number (load_shows f (value_from b.bytes address size)) ∷ []) (sym (opened.bad_are (address / line_size)))
      ∙ ap (λ v. answer_line number (load_shows (fault_at o address) v) ∷ []) value
      ∙ ap (λ line. line ∷ []) (sym own) in
      record {
        accepted_is = ap (λ k. k + 1) told.accepted_is ∙ sym (ap (λ k. k.accepted) now);
        flat_is = λ a l. told.flat_is a l ∙ sym (ap (λ k. k.bytes a) now);
        answers =
            due_more (Load size address (Ok number)) number (filter answers_request written) items (load size address) refl
            (λ u n. ap (λ t. cond t (Some shows) (due_to o log u)) (ne_eqb u number n)) next answer told.answers;
        others = others_stay (filter (λ line. not (answers_request line)) written) items (load size address) (ap (refused_if lines bad_lines (1 + length items)) free) told.others;
      }

  -- a store that is accepted: flat memory has its bytes from now on
  pub told_stored : {written : List (List ℕ)} {items : List Item} (size address value number : ℕ) → number ≡ accepted log + 1 → failed_check largest_ration log (store_verdict lines size address value) ≡ None → Told lines bad_lines o written items None log → Told lines bad_lines o written (items ++ (store size address value ∷ [])) None (Store size address value (Ok number) ∷ log)
  told_stored {written} {items} size address value number next passes told =
      let b : Before = behind lines bad_lines at_start items in
      let free : refusal lines bad_lines b.accepted (store size address value) ≡ None =
      ap (λ k. refused_by k (store_verdict lines size address value)) (sym told.accepted_is) ∙ not_refused log (store_verdict lines size address value) passes in
      let bytes : ℕ → ℕ = stored lines bad_lines size address value b.bytes in
      let now : behind lines bad_lines at_start (items ++ (store size address value ∷ [])) ≡ record { bytes = bytes; accepted = b.accepted + 1 } =
      behind_more lines bad_lines at_start items (store size address value) ∙ ap (λ r. after_request lines bad_lines r bytes b) free in
      let fault : fault_at o address ≡ bad_fault_at lines bad_lines address = opened.bad_are (address / line_size) in
      let shows : Redeemed = store_shows (fault_at o address) in
      let own : due_line o (Store size address value (Ok number) ∷ log) number ≡ answer_line number shows =
      ap (λ t. line_due number (cond t (Some shows) (due_to o log number))) (eq-eqb number number refl) in
      let counted : b.accepted + 1 ≡ number = omega (arith, told.accepted_is, next) in
      let answer : item_answers lines bad_lines b (store size address value) ≡ due_line o (Store size address value (Ok number) ∷ log) number ∷ [] =
      ap (λ r. answer_if lines bad_lines r (answer_line (b.accepted + 1) (store_shows (bad_fault_at lines bad_lines address)))) free
      ∙ ap (λ n. answer_line n (store_shows (bad_fault_at lines bad_lines address)) ∷ []) counted
      ∙ ap (λ f. answer_line number (store_shows f) ∷ []) (sym fault)
      ∙ ap (λ line. line ∷ []) (sym own) in
      record {
        accepted_is = ap (λ k. k + 1) told.accepted_is ∙ sym (ap (λ k. k.accepted) now);
        flat_is = λ a l.
            ap (λ had. cond (is_none (fault_at o address) && covers address size a) (slice_index (low_bytes size value) (a - address)) had) (told.flat_is a l)
            ∙ ap (λ f. cond (is_none f && covers address size a) (slice_index (low_bytes size value) (a - address)) (b.bytes a)) fault
            ∙ sym (ap (λ k. k.bytes a) now);
        answers =
            due_more (Store size address value (Ok number)) number (filter answers_request written) items (store size address value) refl
            (λ u n. ap (λ t. cond t (Some shows) (due_to o log u)) (ne_eqb u number n)) next answer told.answers;
        others = others_stay (filter (λ line. not (answers_request line)) written) items (store size address value) (ap (refused_if lines bad_lines (1 + length items)) free) told.others;
      }
