use Rattle.std.proofs.Common.{◌≡◌, ◌+◌, ◌<◌, ◌≤◌, length, get_or, decimal, arith, rules}
use Rattle.player.proofs.Numbers.{written_more}
use Rattle.player.proofs.listing.write_numbers.Goals as goal

pub loop-number-preserved : goal.loop-number-preserved
loop-number-preserved c =
    let i = c.loop-number.number-index in
    let within : i < length c.args.numbers.now = search rules in
    let digits = c.as_bytes.result.now in
    let is : digits ≡ decimal (get_or c.args.numbers.now i 0) = search rules in
    let short : length digits ≤ 20 = search rules in
    let fits : c.loop-number.written + 1 ≤ length c.loop-number.buffer = search rules in
    let space = c.put-space_end in
    let last = c.put-written-in-loop-number in (
      search rules,
      written_more c.args.buffer.now c.args.letter c.args.numbers.now i c.loop-number.written 0 c.loop-number.buffer space.new.buffer last.new.buffer digits space.result last.result within (omega (arith, c.requires.few, c.requires.room)) c.loop-number.invariant.1 space.ensures.count space.ensures.after last.ensures.count last.ensures.after is short fits,
    )
