-- whole traces: what was read is written as the same bytes, and what is written reads back as the same records
use Rattle.std.proofs.Common.{◌≡◌, ℕ, Bool, true, false, List, [], ◌∷◌, ◌++◌, sym, refl, ap, ◌∙◌, subst, append_assoc}
use Rattle.std.proofs.lemmas.List.{append-nil}
use Rattle.std.specs.List.{flat_map}
use Rattle.trace.specs.Decode.{decode}
use Rattle.trace.specs.Encode.{encode, in_limits, is_setup}
use Rattle.trace.specs.Items.{Item}
use Rattle.trace.specs.Parsed.{Took}
use Rattle.trace.specs.Trace.{ConsistsOf, finished, another, Trace}
use Rattle.trace.proofs.NumberSpelled.{Bytes, bytes_after}
use Rattle.trace.proofs.Laws.{decode_back, decode_forth}

-- the bytes of records that were read are the bytes that they were read from
pub reads_written : {f : Bool} {bs : List ℕ} {items : List Item} → Bytes bs → ConsistsOf f bs items → bs ≡ flat_map encode items
reads_written h finished = refl
reads_written h (another {first} {bs} {rest} {item} {items} e more) =
    let d = decode_back first bs h item rest e in
    d.0 ∙ ap (λ l. encode item ++ l) (reads_written (bytes_after (encode item) rest (subst Bytes d.0 h)) more)

decoded_before : (f : Bool) (bs : List ℕ) (item : Item) (rest more : List ℕ) → Bytes bs → decode f bs ≡ Took item rest → decode f (bs ++ more) ≡ Took item (rest ++ more)
decoded_before f bs item rest more h e =
    let d = decode_back f bs h item rest e in
    ap (λ l. decode f (l ++ more)) d.0
    ∙ ap (decode f) (append_assoc (encode item) rest more)
    ∙ ap (λ b. decode b (encode item ++ (rest ++ more))) (sym d.2)
    ∙ decode_forth item (rest ++ more) d.1

one_record : (f : Bool) (item : Item) → in_limits item ≡ true → is_setup item ≡ f → ConsistsOf f (encode item) (item ∷ [])
one_record f item l s = another (ap (λ b. decode b (encode item)) (sym s) ∙ ap (decode (is_setup item)) (sym (append-nil (encode item))) ∙ decode_forth item [] l) finished

-- a trace begins with a setup
pub reads_first : (item : Item) → in_limits item ≡ true → is_setup item ≡ true → Trace (encode item) (item ∷ [])
reads_first item l s = one_record true item l s

-- one record more, which is no setup
pub reads_more : {f : Bool} {bs : List ℕ} {items : List Item} (item : Item) → Bytes bs → ConsistsOf f bs items → in_limits item ≡ true → is_setup item ≡ false → ConsistsOf f (bs ++ encode item) (items ++ (item ∷ []))
reads_more item h finished l s = one_record false item l s
reads_more item h (another {first} {bs} {rest} {item = i} {items} e more) l s =
    let d = decode_back first bs h i rest e in
    another (decoded_before first bs i rest (encode item) h e) (reads_more item (bytes_after (encode i) rest (subst Bytes d.0 h)) more l s)
