use Rattle.std.proofs.Common.{◌≡◌, ◌%◌, ◌<◌, ℕ, length, slice_index}
use Rattle.port_calls.proofs.running.new_image.Given as goal

-- the bytes of the addresses so far
abbrev pub invariant-loop-address : goal.invariant-loop-address
invariant-loop-address l =
    (length l.image.items ≡ l.address) × ((a : ℕ) → a < l.address → slice_index l.image.items a ≡ a % 251)
