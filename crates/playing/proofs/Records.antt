-- what one record more comes to, and which lines answer requests
use Rattle.std.proofs.Common.{◌≡◌, ℕ, suc, ◌+◌, true, false, List, [], ◌∷◌, ◌++◌, length, sym, refl, ap, ◌∙◌, arith, append_assoc, append-nil}
use Rattle.memory.specs.declared.bad_line.BadLine.{BadLine}
use Rattle.player.specs.Lines.{answer_line, refused_line, note_line}
use Rattle.playing.proofs.Stands.{behind}
use Rattle.playing.specs.Agreement.{answers_request}
use Rattle.playing.specs.Requests.{Before, after, item_answers, answers_of, accepted_of, item_shown, shown_of, steps_of}
use Rattle.port.specs.declared.answer.Redeemed.{Redeemed}
use Rattle.port.specs.declared.answer.Redeemed.TheVariants.{Value, Done, Fault}
use Rattle.trace.specs.Items.{Item, setup, load, store, pass, note}

module _ (lines : ℕ) (bad_lines : List BadLine) where
  -- flat memory and the count behind one record more are those after it
  pub behind_more : (b : Before) (items : List Item) (item : Item) → behind lines bad_lines b (items ++ (item ∷ [])) ≡ after lines bad_lines (behind lines bad_lines b items) item
  behind_more b [] item = refl
  behind_more b (x ∷ xs) item = behind_more (after lines bad_lines b x) xs item

  -- the lines that answer the requests get those of the record behind them
  pub answers_more : (b : Before) (items : List Item) (item : Item) → answers_of lines bad_lines b (items ++ (item ∷ [])) ≡ answers_of lines bad_lines b items ++ item_answers lines bad_lines (behind lines bad_lines b items) item
  answers_more b [] item = append-nil (item_answers lines bad_lines b item)
  answers_more b (x ∷ xs) item =
      let now = item_answers lines bad_lines b x in
      let next = after lines bad_lines b x in
      ap (λ rest. now ++ rest) (answers_more next xs item) ∙ sym (append_assoc now (answers_of lines bad_lines next xs) (item_answers lines bad_lines (behind lines bad_lines next xs) item))

  -- both counts of the accepted requests are one
  pub accepted_behind : (b : Before) (items : List Item) → accepted_of lines bad_lines b items ≡ (behind lines bad_lines b items).accepted
  accepted_behind b [] = refl
  accepted_behind b (x ∷ xs) = accepted_behind (after lines bad_lines b x) xs

  -- the lines that the records show by themselves get those of the record behind them
  pub shown_more : (index : ℕ) (b : Before) (items : List Item) (item : Item) → shown_of lines bad_lines index b (items ++ (item ∷ [])) ≡ shown_of lines bad_lines index b items ++ item_shown lines bad_lines (index + length items) (behind lines bad_lines b items).accepted item
  shown_more index b [] item =
      let same : index ≡ index + 0 = omega arith in
      append-nil (item_shown lines bad_lines index b.accepted item) ∙ ap (λ k. item_shown lines bad_lines k b.accepted item) same
  shown_more index b (x ∷ xs) item =
      let now = item_shown lines bad_lines index b.accepted x in
      let next = after lines bad_lines b x in
      let last = (behind lines bad_lines next xs).accepted in
      let rest = shown_of lines bad_lines (suc index) next xs in
      let same : suc index + length xs ≡ index + suc (length xs) = omega arith in
      ap (λ more. now ++ more) (shown_more (suc index) next xs item)
      ∙ sym (append_assoc now rest (item_shown lines bad_lines (suc index + length xs) last item))
      ∙ ap (λ k. (now ++ rest) ++ item_shown lines bad_lines k last item) same

-- the steps that records ask for grow by those of the record behind them
pub steps_more : (items : List Item) (item : Item) → steps_of (items ++ (item ∷ [])) ≡ steps_of items + steps_of (item ∷ [])
steps_more [] item = omega arith
steps_more (setup head script bad_lines ∷ xs) item = steps_more xs item
steps_more (load size address ∷ xs) item = steps_more xs item
steps_more (store size address value ∷ xs) item = steps_more xs item
steps_more (pass steps ∷ xs) item = let more = steps_more xs item in omega arith
steps_more (note text ∷ xs) item = steps_more xs item

-- there is one record more
pub length_more : (items : List Item) (item : Item) → length (items ++ (item ∷ [])) ≡ length items + 1
length_more [] item = refl
length_more (x ∷ xs) item = let more = length_more xs item in omega arith

-- the line of an answer answers a request
pub answer_letter : (number : ℕ) (r : Redeemed) → answers_request (answer_line number r) ≡ true
answer_letter number (Value value) = refl
answer_letter number Done = refl
answer_letter number (Fault fault) = refl

-- the line of a refused record does not
pub refused_letter : (index code : ℕ) → answers_request (refused_line index code) ≡ false
refused_letter index code = refl

-- and the line of a note does not
pub note_letter : (text : List ℕ) → answers_request (note_line text) ≡ false
note_letter text = refl
