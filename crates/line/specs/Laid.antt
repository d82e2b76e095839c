use Rattle.std.specs.Prelude.{ℕ, ◌/◌, ◌%◌, ◌^◌, Bool, if◌then◌else◌, List, map, length, ◌==◌, slice_index}
use Rattle.std.specs.List.{range_with_len}

-- whether bit i of a mask is 1
abbrev pub bit : ℕ → ℕ → Bool
bit mask i = (mask / 2 ^ i) % 2 == 1

-- byte i of a line that new bytes are laid on: the new one where bit i of the mask is 1, else the line's own
abbrev pub laid_at : List ℕ → ℕ → List ℕ → ℕ → ℕ
laid_at line mask new i = if bit mask i then slice_index new i else slice_index line i

-- a line that new bytes are laid on under a mask
unfoldable pub laid : List ℕ → ℕ → List ℕ → List ℕ
laid line mask new = map (laid_at line mask new) (range_with_len 0 (length line))
