use Rattle.std.proofs.Common.{◌≡◌, ℕ, ◌<◌, ◌≤◌, get_or}
use Rattle.line.proofs.laying.lay_on.Given as goal
use Rattle.line.specs.Laid.{laid_at}

abbrev pub invariant-loop-i : goal.invariant-loop-i
invariant-loop-i l =
    ((k : ℕ) → k < l.i → get_or l.part k 0 ≡ laid_at l.initial.part l.mask l.new k)
    × ((k : ℕ) → l.i ≤ k → get_or l.part k 0 ≡ get_or l.initial.part k 0)
