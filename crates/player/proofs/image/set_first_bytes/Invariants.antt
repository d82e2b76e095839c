use Rattle.std.proofs.Common.{◌≡◌, ◌%◌, ◌<◌, ℕ, length, slice_index}
use Rattle.player.proofs.image.set_first_bytes.Given as goal

-- the bytes at the addresses so far are set
abbrev pub invariant-loop-address : goal.invariant-loop-address
invariant-loop-address l =
    (length l.bytes ≡ length l.fn.bytes) × ((a : ℕ) → a < l.address → slice_index l.bytes a ≡ a % 251)
