use Rattle.std.specs.Prelude.{ℕ, ◌+◌, false, Some}
use Rattle.player.specs.Limits.{limited}
use Rattle.player.specs.declared.progress.Progress.{Progress}

-- behind a setup that ends at an offset
abbrev pub new_progress : ℕ → Progress
new_progress offset = record { next = Some offset; index = 1; pass = 0; steps = 0; ended = false }

-- the next record, which ends at an offset, is used up
abbrev pub used_up : ℕ → Progress → Progress
used_up offset p = record p { next = Some offset; index = limited (p.index + 1) }

-- one step more was made
abbrev pub stepped : Progress → Progress
stepped p = record p { steps = limited (p.steps + 1) }
