use Rattle.std.proofs.Common.{◌≡◌, take, drop, Ok, sym, subst, rules}
use Rattle.player.specs.Player.{memory_size, Makes}
use Rattle.player.specs.declared.player.Player.{Player}
use Rattle.player.specs.declared.player.Stage.TheVariants as stage
use Rattle.player.proofs.player.Player.new.Goals as goal

pub returns : goal.returns
returns c =
    let first = c.in-Ok.first in
    let p : Player = record { stage = stage.Session c.new-session.result; rest = c.split_at_mut-bytes.result.1 } in
    let front : c.split_at_mut-bytes.result.0.now ≡ take (memory_size first) c.args.image.now = search rules in
    let back : c.split_at_mut-bytes.result.1.now ≡ drop (memory_size first) c.args.image.now = search rules in
    subst (λ f. Makes f c.args.image (Ok p)) (sym c.in-Ok.is) (record {
      limits = c.in-Ok-new_rules.ensures.0;
      room = c.if-image-lt-IMAGE_ROOM.false;
      lowest = c.in-Ok-new_rules.rules.0;
      upper = c.in-Ok-new_rules.rules.1;
      rules = c.in-Ok-new_rules.ensures.1;
      bytes = c.split_at_mut-bytes.result.0;
      bytes_are = front;
      session = c.new-session.result;
      session_new = c.new-session.ensures;
      stage_is = search rules;
      rest_is = back;
    })
