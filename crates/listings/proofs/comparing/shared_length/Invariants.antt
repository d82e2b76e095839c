use Rattle.std.proofs.Common.{◌≡◌, take}
use Rattle.listings.proofs.comparing.shared_length.Given as goal

-- what was looked at so far is alike
abbrev pub invariant-loop-at : goal.invariant-loop-at
invariant-loop-at l = take l.at l.text ≡ take l.at l.wanted
