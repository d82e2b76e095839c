use Rattle.std.proofs.Common.{◌≡◌, ◌≤◌, length, take, rules}
use Rattle.std.specs.Option.{IfSome}
use Rattle.playing.proofs.Plays.{on_ok_from}
use Rattle.playing.specs.Played.{trace_room, Listed, Played}
use Rattle.playing.proofs.playing.play.Goals as goal

pub returns : goal.returns
returns g c =
    let bytes = take c.in_ok-count.count c.fill.new.buffer in
    let of : IfSome (g.R.Read.remaining c.args.reader.now) (λ all. bytes ≡ take trace_room all) = search rules in
    let short : length bytes ≤ trace_room = search rules in
    on_ok_from c.write_lines.result (Listed bytes (g.W.Write.contents c.args.writer.now) (g.W.Write.contents c.write_lines.new.writer)) (Played (g.R.Read.remaining c.args.reader.now) (g.W.Write.contents c.args.writer.now) (g.W.Write.contents c.write_lines.new.writer)) c.write_lines.ensures
    (λ listed. record { trace = bytes; trace_is = of; short = short; listed = listed })
