use Rattle.std.specs.Prelude.{◌≡◌, ℕ, zero, suc, ◌+◌, ◌-◌, ◌*◌, ◌/◌, ◌%◌, ◌^◌, ◌<◌, Bool, ◌&&◌, List, [], ◌∷◌, ◌++◌, length, take, drop, replicate, nat_le, nat_lt}
use Rattle.line.specs.Counts.{is_count}
use Rattle.line.specs.Laid.{laid}

-- the sizes that a value may have, in bytes
abbrev pub is_size : ℕ → Bool
is_size size = is_count size

-- whether a value may have that size, and lies within one line from that address up
abbrev pub fits_line : ℕ → ℕ → Bool
fits_line address size = is_size size && nat_le (address % 16 + size) 16

-- the lowest `count` bytes of a value, lowest first
abbrev pub low_bytes : ℕ → ℕ → List ℕ
low_bytes zero value = []
low_bytes (suc count) value = value % 256 ∷ low_bytes count (value / 256)

-- the value of bytes that stand lowest first
abbrev pub number_of : List ℕ → ℕ
number_of [] = 0
number_of (byte ∷ bytes) = byte + 256 * number_of bytes

-- whether byte i of a line is one of the `size` bytes of a value at `offset`
abbrev pub covers : ℕ → ℕ → ℕ → Bool
covers offset size i = nat_le offset i && nat_lt i (offset + size)

-- a mask of `size` ones from bit `offset` up
abbrev pub value_mask : ℕ → ℕ → ℕ
value_mask offset size = (2 ^ size - 1) * 2 ^ offset

-- a line of zeros but for the bytes of a value, which begin at `offset`
abbrev pub value_bytes : ℕ → ℕ → ℕ → List ℕ
value_bytes offset size value = replicate offset 0 ++ (low_bytes size value ++ replicate (16 - (offset + size)) 0)

-- the value of the `size` bytes of a line from `offset` up
abbrev pub value_in : ℕ → ℕ → List ℕ → ℕ
value_in offset size line = number_of (take size (drop offset line))

-- bytes for a value at `offset`: a line that they are laid on under the value's mask holds the value, if the value has no
-- more bytes than `size`
abbrev pub Held : ℕ → ℕ → ℕ → List ℕ → Type 0
Held offset size value bytes =
    (line : List ℕ) → length line ≡ 16 → value < 2 ^ (8 * size) → value_in offset size (laid line (value_mask offset size) bytes) ≡ value
