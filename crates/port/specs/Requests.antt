use Rattle.std.specs.Prelude.{◌≡◌, ℕ, ◌+◌, ◌*◌, ◌/◌, ◌%◌, ◌^◌, ◌<◌, ◌≤◌, Bool, true, false, ◌⊎◌, Ok, Err, Result, ◌==◌, nat_le, nat_lt}
use Rattle.line.specs.Size.{line_size}
use Rattle.line.specs.Values.{is_size}
use Rattle.line.specs.declared.span.Span.{Span}
use Rattle.port.specs.declared.request.Unlawful.{Unlawful}
use Rattle.port.specs.declared.request.Unlawful.TheVariants.{Size, Alignment, Range, Value}

-- the number that an unlawful request is refused by
abbrev pub unlawful_code : Unlawful → ℕ
unlawful_code Size = 6
unlawful_code Alignment = 7
unlawful_code Range = 8
unlawful_code Value = 9

-- what a check comes to: nothing, or why the request is refused
abbrev pub Verdict : Type 0
Verdict = Result (Unit {0}) Unlawful

-- the rest decides where a check passes; where it fails, that is the verdict
abbrev pub checked : Bool → Unlawful → Verdict → Verdict
checked true why rest = rest
checked false why rest = Err why

-- the verdict on a request of `size` bytes at `address`, where `rest` decides once these bytes are lawful
abbrev pub bytes_verdict : ℕ → ℕ → ℕ → Verdict → Verdict
bytes_verdict lines size address rest =
    checked (is_size size) Size
    (checked (address % size == 0) Alignment
    (checked (nat_le (address + size) (line_size * lines)) Range rest))

-- the verdict on a load
abbrev pub load_verdict : ℕ → ℕ → ℕ → Verdict
load_verdict lines size address = bytes_verdict lines size address (Ok tt)

-- the verdict on a store: the value has to fit `size` bytes, besides
abbrev pub store_verdict : ℕ → ℕ → ℕ → ℕ → Verdict
store_verdict lines size address value = bytes_verdict lines size address (checked (nat_lt value (2 ^ (8 * size))) Value (Ok tt))

-- a lawful load, in a memory of so many lines
pub record LawfulLoad (lines size address : ℕ) : Type 0 where
  pub sized : (size ≡ 1) ⊎ ((size ≡ 2) ⊎ ((size ≡ 4) ⊎ (size ≡ 8)))
  pub aligned : address % size ≡ 0
  pub within : address + size ≤ line_size * lines

-- a lawful store: its bytes could be loaded, and the value has at most `size` bytes
pub record LawfulStore (lines size address value : ℕ) : Type 0 where
  pub loadable : LawfulLoad lines size address
  pub fits : value < 2 ^ (8 * size)

-- where the `size` bytes from an address up lie
abbrev pub Spans : ℕ → ℕ → Span → Type 0
Spans size address span = (span.line ≡ address / line_size) × (span.offset ≡ address % line_size) × (span.size ≡ size)
