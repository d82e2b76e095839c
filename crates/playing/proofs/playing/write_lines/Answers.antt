use Rattle.std.proofs.Common.{◌≡◌, [], length, take, true, false, sym, ap, ◌∙◌, subst, arith, rules}
use Rattle.std.proofs.KnownBytes.{Appends-nil, Appends-trans, Appends-kept}
use Rattle.std.specs.Io.KnownBytes.{Appends}
use Rattle.player.specs.Limits.{line_room}
use Rattle.player.specs.Lines.{line_bytes}
use Rattle.player.specs.Player.{player_ended}
use Rattle.playing.proofs.Plays.{begins, goes_on, ends, proceeded, lines_bytes, on_ok}
use Rattle.playing.specs.Calls.{with_line}
use Rattle.playing.specs.Played.{Listed}
use Rattle.trace.proofs.NumberSpelled.{Bytes}
use Rattle.playing.proofs.playing.write_lines.Goals as goal

pub loop-buffer-init : goal.loop-buffer-init
loop-buffer-init g c =
    let bytes : Bytes c.args.trace.now = λ k. omega (arith, c.type_inv.trace k) in
    ([], record { bytes = bytes; going = begins c.args.trace.now bytes c.args.player.now c.requires }, Appends-nil _)

pub loop-buffer-smaller : goal.loop-buffer-smaller
loop-buffer-smaller g c =
    let run = c.loop-buffer.invariant.1 in
    let whole : length c.loop-buffer.buffer ≡ line_room = search rules in
    let not_ended : player_ended c.loop-buffer.player ≡ false = search rules in
    let did = proceeded c.args.trace.now c.loop-buffer.player c.proceed.new.self c.loop-buffer.buffer c.proceed.new.buffer c.proceed.result whole c.proceed.ensures in
    (goes_on c.args.trace.now run.bytes did.0 c.proceed.new.self not_ended run.going did.1).1

pub loop-buffer-preserved : goal.loop-buffer-preserved
loop-buffer-preserved g c =
    let run = c.loop-buffer.invariant.1 in
    let whole : length c.loop-buffer.buffer ≡ line_room = search rules in
    let not_ended : player_ended c.loop-buffer.player ≡ false = search rules in
    let did = proceeded c.args.trace.now c.loop-buffer.player c.proceed.new.self c.loop-buffer.buffer c.proceed.new.buffer c.proceed.result whole c.proceed.ensures in
    let next = goes_on c.args.trace.now run.bytes did.0 c.proceed.new.self not_ended run.going did.1 in
    let count = c.unwrap_or-count.ensures in
    let put : Appends (g.W.Write.contents c.loop-buffer.writer) (g.W.Write.contents c.give.new.writer) (take c.unwrap_or-count.result c.proceed.new.buffer) = c.in_ok-give.ensures in
    let line : Appends (g.W.Write.contents c.loop-buffer.writer) (g.W.Write.contents c.give.new.writer) (line_bytes did.0) =
    subst (Appends (g.W.Write.contents c.loop-buffer.writer) (g.W.Write.contents c.give.new.writer)) (ap (λ n. take n c.proceed.new.buffer) count ∙ did.2) put in (
      with_line did.0 c.loop-buffer.invariant.0,
      record { bytes = run.bytes; going = next.0 },
      subst (Appends (g.W.Write.contents c.args.writer.now) (g.W.Write.contents c.give.new.writer)) (sym (lines_bytes did.0 c.loop-buffer.invariant.0)) (Appends-trans _ _ _ _ _ c.loop-buffer.invariant.2 line),
    )

pub returns : goal.returns
returns g c =
    let run = c.loop-buffer.invariant.1 in
    let over : player_ended c.loop-buffer.player ≡ true = search rules in
    let played = ends c.args.trace.now run.bytes c.requires over run.going in
    let written = Appends-kept _ _ _ _ c.loop-buffer.invariant.2 c.flush.ensures.bytes in
    let listed : Listed c.args.trace.now (g.W.Write.contents c.args.writer.now) (g.W.Write.contents c.flush.new.self) = record { lines = c.loop-buffer.invariant.0; played = played; written = written } in
    on_ok c.flush.result _ listed
