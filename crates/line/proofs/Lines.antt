-- what laying leaves, byte by byte
use Rattle.std.proofs.Common.{◌≡◌, ℕ, ◌<◌, List, length, get_or, arith}
use Rattle.line.specs.Laid.{laid, laid_at}
use Rattle.std.proofs.lemmas.List.FromFn.{length-map-range_with_len, get_or-map-range_with_len}

-- laying keeps the length
pub length-laid : (line : List ℕ) (mask : ℕ) (new : List ℕ) → length (laid line mask new) ≡ length line
unfolding laid
length-laid line mask new = length-map-range_with_len (laid_at line mask new) 0 (length line)

-- each byte of the line so made
pub get_or-laid : (line : List ℕ) (mask : ℕ) (new : List ℕ) (i : ℕ) → i < length line → get_or (laid line mask new) i 0 ≡ laid_at line mask new i
unfolding laid
get_or-laid line mask new i h = get_or-map-range_with_len (laid_at line mask new) 0 (length line) i i 0 h (omega arith)
