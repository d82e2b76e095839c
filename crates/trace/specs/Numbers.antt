use Rattle.std.specs.Prelude.{ℕ, zero, suc, ◌+◌, ◌-◌, ◌*◌, ◌/◌, ◌%◌, ◌<◌, ◌≤◌, Bool, if◌then◌else◌, ◌&&◌, List, [], ◌∷◌, length, Some, None, Option, nat_le, nat_lt, slice_index}
use Rattle.trace.specs.declared.refusal.Refusal.TheVariants.{Truncated, Number, Limit}
use Rattle.trace.specs.Limits.{highest_number}
use Rattle.trace.specs.Parsed.{Parsed, Took, Refuses, and_then}

-- a group of seven bits below a number that is written in shortest form: not below 0, which needs no group more, nor where the whole is too large
abbrev pub grouped : ℕ → ℕ → Option ℕ
grouped high low = if nat_lt 0 high && nat_le (high * 128 + low) highest_number then Some (high * 128 + low) else None

-- a number, if there is one
abbrev pub or_refused : Option ℕ → List ℕ → Parsed ℕ
or_refused (Some n) rest = Took n rest
or_refused None rest = Refuses Number

-- a number with a group of seven bits below it, and the bytes after it
abbrev pub below : ℕ → ℕ → List ℕ → Parsed ℕ
below low high rest = or_refused (grouped high low) rest

-- the number at the front: groups of seven bits, lowest first, the top bit set on all bytes but the last, in the fewest bytes, not above the highest number
abbrev pub number : List ℕ → Parsed ℕ
number [] = Refuses Truncated
number (b ∷ bs) = if nat_lt b 128 then Took b bs else and_then (number bs) (below (b - 128))

-- every byte before an index has its top bit set
abbrev pub Continued : List ℕ → ℕ → Type 0
Continued bs n = (k : ℕ) → k < n → 128 ≤ slice_index bs k

-- a number ends at an index: there stands the first byte without its top bit
abbrev pub Ends : List ℕ → ℕ → Type 0
Ends bs last = (last < length bs) × (slice_index bs last < 128) × Continued bs last

-- the bytes of a number that needs at most so many groups after its first
abbrev pub groups : ℕ → ℕ → List ℕ
groups zero n = n ∷ []
groups (suc k) n = if nat_lt n 128 then n ∷ [] else (n % 128 + 128) ∷ groups k (n / 128)

-- the bytes of a number, up to the highest number
abbrev pub spelled : ℕ → List ℕ
spelled n = groups 9 n

-- whether a number lies between two limits, both counted
abbrev pub within : ℕ → ℕ → ℕ → Bool
within low high n = nat_le low n && nat_le n high

-- a number between two limits
abbrev pub number_within : ℕ → ℕ → List ℕ → Parsed ℕ
number_within low high bs = and_then (number bs) (λ n rest. if within low high n then Took n rest else Refuses Limit)
