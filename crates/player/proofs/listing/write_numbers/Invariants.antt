use Rattle.std.proofs.Common.{◌≡◌, length}
use Rattle.player.proofs.Numbers.{Written}
use Rattle.player.proofs.listing.write_numbers.Given as goal

abbrev pub invariant-loop-number : goal.invariant-loop-number
invariant-loop-number l =
    (length l.buffer ≡ length l.fn.buffer) × Written l.fn.buffer l.letter l.numbers l.number-index l.written l.buffer
