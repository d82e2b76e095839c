use Rattle.std.proofs.Common.{length, arith}
use Rattle.backing.proofs.Tables.{fits, front_fits}
use Rattle.backing.proofs.script.Script.new.Goals as goal
use Rattle.backing.proofs.script.Script.new.Goals.{then-all_zero, else-all_zero}

pub unwrap-requires : goal.unwrap-requires
unwrap-requires c =
    fits c.try_from.result _ (length c.if-all_zero.counted.now) _
    (elim c.if-all_zero.branch [
      | then-all_zero w ↦ rw w.counted-is (omega arith)
      | else-all_zero w ↦ rw (w.counted-is, c.front-first.ensures) (front_fits _ c.args.bytes.now)
    ])
    c.try_from.ensures
