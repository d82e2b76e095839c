use Rattle.backing.proofs.Tables.{fits, front_fits}
use Rattle.backing.proofs.image.Image.new.Goals as goal
use Rattle.std.proofs.Common.{length}

pub unwrap-requires : goal.unwrap-requires
unwrap-requires c = fits c.try_from.result _ (length c.front-counted.result.now) _ (rw c.front-counted.ensures (front_fits _ c.args.bad_lines.now)) c.try_from.ensures
