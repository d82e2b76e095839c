use Rattle.std.proofs.Common.{length, sym, ap, subst}
use Rattle.player.specs.Image.{FirstBytes}
use Rattle.player.proofs.session.Session.new.Goals as goal

pub returns : goal.returns
returns c =
    let lent = c.new_bottom-bottom.ensures.lent in
    record {
      bottom = c.new_bottom-bottom.result;
      bottom_new = c.new_bottom-bottom.ensures.new;
      bottom_idle = c.new_bottom-bottom.ensures.idle;
      first = subst (λ m. FirstBytes (length c.args.bytes.now) m.now) (sym lent) c.set_first_bytes.ensures;
      lent = ap (λ m. m.ghost_name) lent;
      hierarchy = c.new-hierarchy.result;
      hierarchy_new = c.new-hierarchy.ensures.new;
      covers = c.new-hierarchy.ensures.covers;
      idle = c.new-hierarchy.ensures.idle c.new_bottom-bottom.ensures.idle;
      opened = c.new.ensures;
      progress = c.new-2.ensures;
    }
