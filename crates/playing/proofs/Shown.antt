-- what is written by itself, and events that change nothing of what was told
use Rattle.std.proofs.Common.{◌≡◌, ℕ, ◌+◌, not, false, List, [], ◌∷◌, ◌++◌, map, filter, length, Some, None, Option, Err, IsPermutation, sym, refl, ap, ap₂, ◌∙◌, subst, arith, append-nil}
use Rattle.memory.specs.Meaning.{Facts}
use Rattle.memory.specs.declared.bad_line.BadLine.{BadLine}
use Rattle.player.specs.Limits.{limited}
use Rattle.player.specs.Lines.{refused_line, note_line}
use Rattle.playing.proofs.Lists.{filter_yes, filter_no}
use Rattle.playing.proofs.Records.{behind_more, answers_more, shown_more, refused_letter, note_letter}
use Rattle.playing.proofs.Stands.{due_line, line_due, behind, Told}
use Rattle.playing.specs.Agreement.{answers_request}
use Rattle.playing.specs.Requests.{Before, at_start, after, after_request, answer_if, refused_if, refusal, stored, item_answers, answers_of, item_shown, shown_of}
use Rattle.port.specs.Promise.{accepted, flat, due_to, out}
use Rattle.port.specs.declared.event.Event.{Event}
use Rattle.port.specs.declared.event.Event.TheVariants.{Load, Store, Step, Come, RationLeft, OutCount}
use Rattle.port.specs.declared.refusal.Refusal as port_refusal
use Rattle.trace.specs.Items.{Item, load, store, pass, note}
use Rattle.trace.specs.Refusal.{refusal_code}
use Rattle.trace.specs.declared.refusal.Refusal.{Refusal}

-- where the same is due to each number, the lines of the answers are the same
due_lines_same : (o : Facts) (new old : List Event) → ((u : ℕ) → due_to o new u ≡ due_to o old u) → (numbers : List ℕ) → map (due_line o new) numbers ≡ map (due_line o old) numbers
due_lines_same o new old same [] = refl
due_lines_same o new old same (u ∷ numbers) = ap₂ (λ line lines. line ∷ lines) (ap (line_due u) (same u)) (due_lines_same o new old same numbers)

module _ (lines : ℕ) (bad_lines : List BadLine) (o : Facts) where
  -- flat memory and the count of accepted requests behind these records
  abbrev now : List Item → Before
  now items = behind lines bad_lines at_start items

  -- the lines that are no answers
  abbrev by_itself : List (List ℕ) → List (List ℕ)
  by_itself written = filter (λ line. not (answers_request line)) written

  -- the lines that the records show by themselves
  abbrev shows : List Item → List (List ℕ)
  shows items = shown_of lines bad_lines 1 at_start items

  -- a record that accepts nothing, and shows these lines
  record Idles (items : List Item) (item : Item) (more : List (List ℕ)) : Type 0 where
    stays : after lines bad_lines (now items) item ≡ now items
    answers_none : item_answers lines bad_lines (now items) item ≡ []
    shows_more : item_shown lines bad_lines (1 + length items) (now items).accepted item ≡ more

  -- flat memory and the count stay as they are
  now_same : (items : List Item) (item : Item) (more : List (List ℕ)) → Idles items item more → now items ≡ now (items ++ (item ∷ []))
  now_same items item more idles = sym (behind_more lines bad_lines at_start items item ∙ idles.stays)

  -- and so do the answers
  answers_same : (items : List Item) (item : Item) (more : List (List ℕ)) → Idles items item more → answers_of lines bad_lines at_start items ≡ answers_of lines bad_lines at_start (items ++ (item ∷ []))
  answers_same items item more idles =
      let all = answers_of lines bad_lines at_start items in
      sym (answers_more lines bad_lines at_start items item ∙ ap (λ rest. all ++ rest) idles.answers_none ∙ append-nil all)

  -- the lines that it shows come behind those of the records before it
  shows_behind : (items : List Item) (item : Item) (more : List (List ℕ)) → Idles items item more → shows (items ++ (item ∷ [])) ≡ shows items ++ more
  shows_behind items item more idles = shown_more lines bad_lines 1 at_start items item ∙ ap (λ rest. shows items ++ rest) idles.shows_more

  -- such a record is told once the lines that it shows are written
  told_idle : (written new : List (List ℕ)) (items : List Item) (log : List Event) (item : Item) (more : List (List ℕ)) → Idles items item more → filter answers_request new ≡ filter answers_request written → by_itself new ≡ by_itself written ++ more → Told lines bad_lines o written items None log → Told lines bad_lines o new (items ++ (item ∷ [])) None log
  told_idle written new items log item more idles answers_are others_are told =
      let same = now_same items item more idles in
      let due = map (due_line o log) (out log) in
      let past : IsPermutation (answers_of lines bad_lines at_start (items ++ (item ∷ []))) (filter answers_request written ++ due) = subst (λ all. IsPermutation all (filter answers_request written ++ due)) (answers_same items item more idles) told.answers in
      record {
        accepted_is = told.accepted_is ∙ ap (λ b. b.accepted) same;
        flat_is = λ a l. told.flat_is a l ∙ ap (λ b. b.bytes a) same;
        answers = subst (λ done. IsPermutation (answers_of lines bad_lines at_start (items ++ (item ∷ []))) (done ++ due)) (sym answers_are) past;
        others =
            others_are
            ∙ ap (λ before. before ++ more) (told.others ∙ append-nil (shows items))
            ∙ sym (shows_behind items item more idles)
            ∙ sym (append-nil (shows (items ++ (item ∷ []))));
      }

  -- one that shows a line
  told_shown : (written : List (List ℕ)) (items : List Item) (log : List Event) (item : Item) (line : List ℕ) → answers_request line ≡ false → Idles items item (line ∷ []) → Told lines bad_lines o written items None log → Told lines bad_lines o (written ++ (line ∷ [])) (items ++ (item ∷ [])) None log
  told_shown written items log item line is idles told =
      told_idle written (written ++ (line ∷ [])) items log item (line ∷ []) idles
      (filter_no answers_request written line is) (filter_yes (λ line. not (answers_request line)) written line (ap not is)) told

  -- a note shows its text
  pub told_noted : {written : List (List ℕ)} {items : List Item} {log : List Event} (text : List ℕ) → Told lines bad_lines o written items None log → Told lines bad_lines o (written ++ (note_line text ∷ [])) (items ++ (note text ∷ [])) None log
  told_noted {written} {items} {log} text told =
      told_shown written items log (note text) (note_line text) (note_letter text) (record { stays = refl; answers_none = refl; shows_more = refl }) told

  -- a pass shows nothing
  pub told_passed : {written : List (List ℕ)} {items : List Item} {log : List Event} (steps : ℕ) → Told lines bad_lines o written items None log → Told lines bad_lines o written (items ++ (pass steps ∷ [])) None log
  told_passed {written} {items} {log} steps told =
      told_idle written written items log (pass steps) [] (record { stays = refl; answers_none = refl; shows_more = refl }) refl (sym (append-nil (by_itself written))) told

  -- the line of a refused record, by how many stood before it
  line_same : (items : List Item) (code : ℕ) → refused_line (limited (1 + length items)) code ≡ refused_line (limited (length items + 1)) code
  line_same items code = let same : 1 + length items ≡ length items + 1 = omega arith in ap (λ k. refused_line (limited k) code) same

  -- a request that is refused shows that
  refused_shows : (items : List Item) (r : Option ℕ) (code : ℕ) → r ≡ Some code → refused_if lines bad_lines (1 + length items) r ≡ refused_line (limited (length items + 1)) code ∷ []
  refused_shows items r code is = ap (refused_if lines bad_lines (1 + length items)) is ∙ ap (λ line. line ∷ []) (line_same items code)

  -- and is not answered
  refused_answers : (r : Option ℕ) (line : List ℕ) (code : ℕ) → r ≡ Some code → answer_if lines bad_lines r line ≡ []
  refused_answers r line code is = ap (λ q. answer_if lines bad_lines q line) is

  -- a load that is refused
  pub told_refused_load : {written : List (List ℕ)} {items : List Item} {log : List Event} (size address code : ℕ) → refusal lines bad_lines (behind lines bad_lines at_start items).accepted (load size address) ≡ Some code → Told lines bad_lines o written items None log → Told lines bad_lines o (written ++ (refused_line (limited (length items + 1)) code ∷ [])) (items ++ (load size address ∷ [])) None log
  told_refused_load {written} {items} {log} size address code is told =
      let r = refusal lines bad_lines (now items).accepted (load size address) in
      told_shown written items log (load size address) (refused_line (limited (length items + 1)) code) (refused_letter (limited (length items + 1)) code)
      (record {
        stays = ap (λ q. after_request lines bad_lines q (now items).bytes (now items)) is;
        answers_none = refused_answers r _ code is;
        shows_more = refused_shows items r code is;
      }) told

  -- a store that is refused
  pub told_refused_store : {written : List (List ℕ)} {items : List Item} {log : List Event} (size address value code : ℕ) → refusal lines bad_lines (behind lines bad_lines at_start items).accepted (store size address value) ≡ Some code → Told lines bad_lines o written items None log → Told lines bad_lines o (written ++ (refused_line (limited (length items + 1)) code ∷ [])) (items ++ (store size address value ∷ [])) None log
  told_refused_store {written} {items} {log} size address value code is told =
      let r = refusal lines bad_lines (now items).accepted (store size address value) in
      told_shown written items log (store size address value) (refused_line (limited (length items + 1)) code) (refused_letter (limited (length items + 1)) code)
      (record {
        stays = ap (λ q. after_request lines bad_lines q (stored lines bad_lines size address value (now items).bytes) (now items)) is;
        answers_none = refused_answers r _ code is;
        shows_more = refused_shows items r code is;
      }) told

  -- a record that the reader refuses ends the records, and shows that
  pub told_cut : {written : List (List ℕ)} {items : List Item} {log : List Event} (why : Refusal) → Told lines bad_lines o written items None log → Told lines bad_lines o (written ++ (refused_line (limited (length items + 1)) (refusal_code why) ∷ [])) items (Some why) log
  told_cut {written} {items} {log} why told =
      let line = refused_line (limited (length items + 1)) (refusal_code why) in
      let is = refused_letter (limited (length items + 1)) (refusal_code why) in
      let due = map (due_line o log) (out log) in
      record {
        accepted_is = told.accepted_is;
        flat_is = told.flat_is;
        answers = subst (λ done. IsPermutation (answers_of lines bad_lines at_start items) (done ++ due)) (sym (filter_no answers_request written line is)) told.answers;
        others = filter_yes (λ line. not (answers_request line)) written line (ap not is) ∙ ap (λ before. before ++ (line ∷ [])) (told.others ∙ append-nil (shows items));
      }

  -- events that give and redeem no number, and store nothing, leave all as it was told
  pub told_still : {written : List (List ℕ)} {items : List Item} {cut : Option Refusal} {log : List Event} (e : Event) → ((a : ℕ) → flat o (e ∷ log) a ≡ flat o log a) → ((u : ℕ) → due_to o (e ∷ log) u ≡ due_to o log u) → accepted (e ∷ log) ≡ accepted log → out (e ∷ log) ≡ out log → Told lines bad_lines o written items cut log → Told lines bad_lines o written items cut (e ∷ log)
  told_still {written} {items} {cut} {log} e flat_same due_same accepted_same out_same told =
      let same : map (due_line o log) (out log) ≡ map (due_line o (e ∷ log)) (out (e ∷ log)) = sym (ap (map (due_line o (e ∷ log))) out_same ∙ due_lines_same o (e ∷ log) log due_same (out log)) in
      record {
        accepted_is = accepted_same ∙ told.accepted_is;
        flat_is = λ a l. flat_same a ∙ told.flat_is a l;
        answers = subst (λ due. IsPermutation (answers_of lines bad_lines at_start items) (filter answers_request written ++ due)) same told.answers;
        others = told.others;
      }

  -- a step
  pub told_step : {written : List (List ℕ)} {items : List Item} {cut : Option Refusal} {log : List Event} (brought : Option ℕ) → Told lines bad_lines o written items cut log → Told lines bad_lines o written items cut (Step brought ∷ log)
  told_step brought told = told_still (Step brought) (λ a. refl) (λ u. refl) (omega arith) refl told

  -- a question which answer came first
  pub told_come : {written : List (List ℕ)} {items : List Item} {cut : Option Refusal} {log : List Event} (told : Option ℕ) → Told lines bad_lines o written items cut log → Told lines bad_lines o written items cut (Come told ∷ log)
  told_come first told = told_still (Come first) (λ a. refl) (λ u. refl) (omega arith) refl told

  -- a question how many numbers are out
  pub told_count : {written : List (List ℕ)} {items : List Item} {cut : Option Refusal} {log : List Event} (n : ℕ) → Told lines bad_lines o written items cut log → Told lines bad_lines o written items cut (OutCount n ∷ log)
  told_count n told = told_still (OutCount n) (λ a. refl) (λ u. refl) (omega arith) refl told

  -- a load that the port refuses
  pub told_not_loaded : {written : List (List ℕ)} {items : List Item} {cut : Option Refusal} {log : List Event} (size address : ℕ) (why : port_refusal.Refusal) → Told lines bad_lines o written items cut log → Told lines bad_lines o written items cut (Load size address (Err why) ∷ log)
  told_not_loaded size address why told = told_still (Load size address (Err why)) (λ a. refl) (λ u. refl) (omega arith) refl told

  -- a store that the port refuses
  pub told_not_stored : {written : List (List ℕ)} {items : List Item} {cut : Option Refusal} {log : List Event} (size address value : ℕ) (why : port_refusal.Refusal) → Told lines bad_lines o written items cut log → Told lines bad_lines o written items cut (Store size address value (Err why) ∷ log)
  told_not_stored size address value why told = told_still (Store size address value (Err why)) (λ a. refl) (λ u. refl) (omega arith) refl told
