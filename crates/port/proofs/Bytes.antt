-- how the bytes of lines and flat memory correspond
use Rattle.std.proofs.Common.{◌≡◌, ℕ, zero, suc, ◌+◌, ◌-◌, ◌*◌, ◌/◌, ◌%◌, ◌<◌, ◌≤◌, Bool, true, false, cond, List, [], ◌∷◌, length, take, drop, sym, refl, ap, ◌∙◌, arith, Ok, ◌⊎◌, inl, inr, Some, None, Option, ⊎_elim, eqb, subst}
use Rattle.std.specs.Prelude.{slice_index, is_none, ◌&&◌}
use Rattle.line.proofs.Lines.{get_or-laid}
use Rattle.line.proofs.Masks.{value_mask_bits}
use Rattle.line.proofs.Numbers.{length_low}
use Rattle.line.specs.Laid.{laid, bit}
use Rattle.line.specs.Size.{line_size}
use Rattle.line.specs.Values.{is_size, covers, low_bytes, number_of, value_mask, value_bytes, value_in}
use Rattle.line.specs.declared.span.Span.{Span}
use Rattle.memory.specs.Meaning.{Facts, Fixed, written}
use Rattle.memory.specs.Replies.{read_due, write_due, written_on}
use Rattle.memory.specs.declared.replies.Fault.{Fault}
use Rattle.port.specs.Answers.{load_shows, store_shows}
use Rattle.port.proofs.Fits.{shown}
use Rattle.port.specs.Promise.{fault_at, flat, value_from}
use Rattle.port.specs.Requests.{Verdict, checked, bytes_verdict, load_verdict, store_verdict, Spans}
use Rattle.port.specs.declared.answer.Asked.TheVariants as asked
use Rattle.port.specs.declared.answer.Redeemed.TheVariants as redeemed
use Rattle.port.specs.declared.event.Event.{Event}
use Rattle.port.specs.declared.event.Event.TheVariants.{Store}
use Rattle.port.specs.declared.request.Unlawful.{Unlawful}
use Rattle.std.proofs.lemmas.Bool.{eqb-true, leb-true, cond-true, cond-false, and_right, ne_eqb, eq-eqb, cases_eq}
use Rattle.std.proofs.lemmas.Bool.Decides.{nat_tests}
use Rattle.std.proofs.lemmas.List.{length-replicate, length-drop, get_or_append_left, get_or-append_right, get_or-drop}

-- a check that came to nothing passed, and so did the rest
passed : (b : Bool) (why : Unlawful) (rest : Verdict) → checked b why rest ≡ Ok tt → (b ≡ true) × (rest ≡ Ok tt)
passed true why rest h = (refl, h)
passed false why rest h = cc

-- a size that a value may have is 1, 2, 4 or 8
sizes : (size : ℕ) → is_size size ≡ true → (size ≡ 1) ⊎ ((size ≡ 2) ⊎ ((size ≡ 4) ⊎ (size ≡ 8)))
sizes size h = grind (arith, nat_tests)

-- bytes of such a size that begin at a multiple of it lie in one line
in_line : (lines size address : ℕ) → (size ≡ 1) ⊎ ((size ≡ 2) ⊎ ((size ≡ 4) ⊎ (size ≡ 8))) → address % size ≡ 0 → address + size ≤ 16 * lines → (address / 16 < lines) × (address % 16 + size ≤ 16)
in_line lines size address (inl is) even inside = let e : address % 1 ≡ 0 = rw is at even in (omega arith, omega arith)
in_line lines size address (inr (inl is)) even inside = let e : address % 2 ≡ 0 = rw is at even in (omega arith, omega arith)
in_line lines size address (inr (inr (inl is))) even inside = let e : address % 4 ≡ 0 = rw is at even in (omega arith, omega arith)
in_line lines size address (inr (inr (inr is))) even inside = let e : address % 8 ≡ 0 = rw is at even in (omega arith, omega arith)

-- lawful bytes lie in one line that there is
bytes_inside : (lines size address : ℕ) (rest : Verdict) → bytes_verdict lines size address rest ≡ Ok tt → (address / 16 < lines) × (address % 16 + size ≤ 16)
bytes_inside lines size address rest h =
    let a = passed _ _ _ h in
    let b = passed _ _ _ a.1 in
    let c = passed _ _ _ b.1 in
    in_line lines size address (sizes size a.0) (eqb-true _ _ b.0) (leb-true _ _ c.0)

-- a lawful load lies in one line that there is
pub load_inside : (lines size address : ℕ) → load_verdict lines size address ≡ Ok tt → (address / 16 < lines) × (address % 16 + size ≤ 16)
load_inside lines size address h = bytes_inside lines size address _ h

-- and so does a lawful store
pub store_inside : (lines size address value : ℕ) → store_verdict lines size address value ≡ Ok tt → (address / 16 < lines) × (address % 16 + size ≤ 16)
store_inside lines size address value h = bytes_inside lines size address _ h

-- byte i of the bytes of a value at an offset
value_byte : (q s v i : ℕ) → covers q s i ≡ true → slice_index (value_bytes q s v) i ≡ slice_index (low_bytes s v) (i - q)
value_byte q s v i h = grind (arith, nat_tests, get_or-append_right, length-replicate, get_or_append_left, length_low)

-- byte i of a line that a value was laid on
pub stored_byte : (line : List ℕ) (q s v i : ℕ) → length line ≡ 16 → i < 16 → q + s ≤ 16 → slice_index (laid line (value_mask q s) (value_bytes q s v)) i ≡ cond (covers q s i) (slice_index (low_bytes s v) (i - q)) (slice_index line i)
stored_byte line q s v i long inside fits = go (covers q s i) refl
  where
    go : (b : Bool) → covers q s i ≡ b → slice_index (laid line (value_mask q s) (value_bytes q s v)) i ≡ cond b (slice_index (low_bytes s v) (i - q)) (slice_index line i)
    go true t =
        get_or-laid line (value_mask q s) (value_bytes q s v) i (omega arith)
        ∙ cond-true (bit (value_mask q s) i) (slice_index (value_bytes q s v) i) (slice_index line i) (value_mask_bits q s i ∙ t)
        ∙ value_byte q s v i t
    go false t =
        get_or-laid line (value_mask q s) (value_bytes q s v) i (omega arith)
        ∙ cond-false (bit (value_mask q s) i) (slice_index (value_bytes q s v) i) (slice_index line i) (value_mask_bits q s i ∙ t)

-- the number of bytes that stand as in flat memory
number_is : (bs : List ℕ) (f : ℕ → ℕ) (a s : ℕ) → s ≤ length bs → ((i : ℕ) → i < s → slice_index bs i ≡ f (a + i)) → number_of (take s bs) ≡ value_from f a s
number_is bs f a zero h same = refl
number_is [] f a (suc s) h same = absurd (omega arith)
number_is (b ∷ bs) f a (suc s) h same =
    let first : b ≡ f a = same 0 (omega arith) ∙ ap f (omega arith) in
    let rest : number_of (take s bs) ≡ value_from f (a + 1) s = number_is bs f (a + 1) s (omega arith) (λ i below. same (suc i) (omega arith) ∙ ap f (omega arith)) in
    omega (arith, first, rest)

-- the value in a line whose bytes are those of flat memory
pub value_is : (bytes : List ℕ) (f : ℕ → ℕ) (line q s : ℕ) → length bytes ≡ 16 → q + s ≤ 16 → ((i : ℕ) → i < 16 → slice_index bytes i ≡ f (16 * line + i)) → value_in q s bytes ≡ value_from f (16 * line + q) s
value_is bytes f line q s long fits same =
    number_is (drop q bytes) f (16 * line + q) s (simp length-drop (omega arith)) (λ i below. get_or-drop q bytes i 0 ∙ same (q + i) (omega arith) ∙ ap f (omega arith))

-- which bytes of its line are those of a value at an address
covers_line : (address size line i : ℕ) → i < 16 → line ≡ address / 16 → covers address size (16 * line + i) ≡ covers (address % 16) size i
covers_line address size line i inside is = grind (arith, nat_tests)

-- no byte of another line is one of them, if the value lies in one line
covers_other : (address size line i : ℕ) → i < 16 → address % 16 + size ≤ 16 → (line ≡ address / 16 → ⊥) → covers address size (16 * line + i) ≡ false
covers_other address size line i inside fits other = grind (arith, nat_tests)

-- the line of a store with the store's bytes laid on
abbrev stored_on : Facts → ℕ → ℕ → ℕ → List ℕ
stored_on f size address value = laid (f.contents (address / 16)) (value_mask (address % 16) size) (value_bytes (address % 16) size value)

-- the contents after the write of a store
abbrev after_store : Facts → ℕ → ℕ → ℕ → ℕ → List ℕ
after_store f size address value line = written f (address / 16) (value_mask (address % 16) size) (value_bytes (address % 16) size value) line

module _ (o f : Facts) (log : List Event) (fixed : Fixed o f) (flat_is : (line i : ℕ) → line < o.lines → i < line_size → slice_index (f.contents line) i ≡ flat o log (line_size * line + i)) (whole : (line : ℕ) → line < o.lines → length (f.contents line) ≡ line_size) where
  -- the line of an accepted store, good or bad, with what stands there after the write
  stored_line : (size address value i : ℕ) (b : Option Fault) → address / 16 < o.lines → address % 16 + size ≤ 16 → i < 16 → slice_index (written_on b (f.contents (address / 16)) (stored_on f size address value)) i ≡ cond (is_none b && covers address size (16 * (address / 16) + i)) (slice_index (low_bytes size value) (16 * (address / 16) + i - address)) (flat o log (16 * (address / 16) + i))
  stored_line size address value i (Some fault) there fits inside = flat_is (address / 16) i there inside
  stored_line size address value i None there fits inside =
      let covered : covers address size (16 * (address / 16) + i) ≡ covers (address % 16) size i = covers_line address size (address / 16) i inside refl in
      let from : 16 * (address / 16) + i - address ≡ i - address % 16 = omega arith in
      stored_byte (f.contents (address / 16)) (address % 16) size value i (whole (address / 16) there) inside fits
      ∙ rw (covered, from) (ap (cond (covers (address % 16) size i) (slice_index (low_bytes size value) (i - address % 16))) (flat_is (address / 16) i there inside))

  -- that line, in the contents after the write
  stored_here : (size address value number i : ℕ) → address / 16 < o.lines → address % 16 + size ≤ 16 → i < 16 → slice_index (after_store f size address value (address / 16)) i ≡ flat o (Store size address value (Ok number) ∷ log) (16 * (address / 16) + i)
  stored_here size address value number i there fits inside =
      let line : ℕ = address / 16 in
      let had : List ℕ = f.contents line in
      let new : List ℕ = stored_on f size address value in
      ap (λ bytes. slice_index bytes i) (cond-true (eqb line line) (written_on (f.bad line) had new) had (eq-eqb line line refl))
      ∙ ap (λ b. slice_index (written_on b had new) i) (fixed.bad_stay line)
      ∙ stored_line size address value i (o.bad line) there fits inside

  -- another line
  stored_away : (size address value number line i : ℕ) → line < o.lines → address % 16 + size ≤ 16 → i < 16 → (line ≡ address / 16 → ⊥) → slice_index (after_store f size address value line) i ≡ flat o (Store size address value (Ok number) ∷ log) (16 * line + i)
  stored_away size address value number line i there fits inside other =
      ap (λ bytes. slice_index bytes i) (cond-false (eqb line (address / 16)) _ (f.contents line) (ne_eqb line (address / 16) other))
      ∙ flat_is line i there inside
      ∙ sym (cond-false (is_none (fault_at o address) && covers address size (16 * line + i)) _ (flat o log (16 * line + i)) (and_right _ _ (covers_other address size line i inside fits other)))

  -- flat memory after an accepted store is what the memory holds after the write
  pub flat_stored : (size address value number : ℕ) → store_verdict o.lines size address value ≡ Ok tt → (line i : ℕ) → line < o.lines → i < line_size → slice_index (written f (address / line_size) (value_mask (address % line_size) size) (value_bytes (address % line_size) size value) line) i ≡ flat o (Store size address value (Ok number) ∷ log) (line_size * line + i)
  flat_stored size address value number lawful line i there inside =
      let lies : (address / 16 < o.lines) × (address % 16 + size ≤ 16) = store_inside o.lines size address value lawful in
      ⊎_elim
      (λ is. subst (λ k. slice_index (after_store f size address value k) i ≡ flat o (Store size address value (Ok number) ∷ log) (16 * k + i)) (sym is) (stored_here size address value number i lies.0 lies.1 inside))
      (stored_away size address value number line i there lies.1 inside)
      (cases_eq line (address / 16))

  -- a load of a line, good or bad
  loaded_line : (size address : ℕ) (span : Span) (b : Option Fault) → address / 16 < o.lines → address % 16 + size ≤ 16 → Spans size address span → shown (asked.Load span) (read_due b (f.contents (address / 16))) ≡ load_shows b (value_from (flat o log) address size)
  loaded_line size address span (Some fault) there fits spans = refl
  loaded_line size address span None there fits spans =
      let line : ℕ = address / 16 in
      let is : 16 * (address / 16) + address % 16 ≡ address = omega arith in
      let value : value_in (address % 16) size (f.contents line) ≡ value_from (flat o log) (16 * line + address % 16) size =
      value_is (f.contents line) (flat o log) line (address % 16) size (whole line there) fits (λ i below. flat_is line i there below) in
      rw (spans.1, spans.2) (ap redeemed.Value (value ∙ ap (λ a. value_from (flat o log) a size) is))

  -- what a lawful load shows of its line is the value of its bytes in flat memory, or the fault
  pub load_shown : (size address : ℕ) (span : Span) → load_verdict o.lines size address ≡ Ok tt → Spans size address span → shown (asked.Load span) (read_due (f.bad (address / line_size)) (f.contents (address / line_size))) ≡ load_shows (fault_at o address) (value_from (flat o log) address size)
  load_shown size address span lawful spans =
      let lies : (address / 16 < o.lines) × (address % 16 + size ≤ 16) = load_inside o.lines size address lawful in
      ap (λ b. shown (asked.Load span) (read_due b (f.contents (address / 16)))) (fixed.bad_stay (address / 16))
      ∙ loaded_line size address span (o.bad (address / 16)) lies.0 lies.1 spans

  -- a store to a line, good or bad
  stored_shown : (b : Option Fault) → shown asked.Store (write_due b) ≡ store_shows b
  stored_shown None = refl
  stored_shown (Some fault) = refl

  -- what a store shows is "done", or the fault
  pub store_shown : (address : ℕ) → shown asked.Store (write_due (f.bad (address / line_size))) ≡ store_shows (fault_at o address)
  store_shown address = ap (λ b. shown asked.Store (write_due b)) (fixed.bad_stay (address / 16)) ∙ stored_shown (o.bad (address / 16))
