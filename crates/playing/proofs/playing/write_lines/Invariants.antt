use Rattle.std.proofs.Common.{List, ℕ}
use Rattle.std.specs.Io.KnownBytes.{Appends}
use Rattle.std.specs.List.{concat}
use Rattle.playing.proofs.Plays.{stage_left, Run}
use Rattle.playing.proofs.playing.write_lines.Given as goal

-- the lines that were written so far are those of the calls that were made
abbrev pub invariant-loop-buffer : goal.invariant-loop-buffer
invariant-loop-buffer g l =
    (lines : List (List ℕ)) × Run l.trace l.fn.player lines l.player × Appends (g.W.Write.contents l.fn.writer) (g.W.Write.contents l.writer) (concat lines)

-- each call leaves less to do
abbrev pub decreases-loop-buffer : goal.decreases-loop-buffer
decreases-loop-buffer g l = stage_left l.trace l.player.stage
