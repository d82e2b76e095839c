use Rattle.std.specs.Prelude.{◌≡◌, ℕ, ◌%◌, ◌<◌, List, length, slice_index}

-- the byte at an address at the start
abbrev pub first_byte : ℕ → ℕ
first_byte address = address % 251

-- so many bytes as they are at the start
pub record FirstBytes (size : ℕ) (bytes : List ℕ) : Type 0 where
  pub size_is : length bytes ≡ size
  pub bytes_are : (address : ℕ) → address < size → slice_index bytes address ≡ first_byte address
