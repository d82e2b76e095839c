use Rattle.std.proofs.Common.{[], ◌∷◌, ◌++◌, arith}
use Rattle.std.proofs.lemmas.List.{length-append}
use Rattle.player.proofs.Put.{put_behind, put_front}
use Rattle.player.proofs.listing.write_note.Goals as goal

pub returns : goal.returns
returns c =
    let text = c.args.text.now in
    let one = c.put-letter_end in
    let two = c.put-text_end in
    let all = length-append text (10 ∷ []) in (
      omega (arith, all, one.ensures.count, two.ensures.count, c.put.ensures.count),
      put_front (78 ∷ 32 ∷ (text ++ 10 ∷ [])) c.args.buffer.now c.put.new.buffer
          (put_behind 0 one.result (78 ∷ 32 ∷ []) (text ++ 10 ∷ []) c.args.buffer.now one.new.buffer c.put.new.buffer (omega (arith, c.requires)) one.ensures.count one.ensures.after
          (put_behind one.result two.result text (10 ∷ []) one.new.buffer two.new.buffer c.put.new.buffer (omega (arith, c.requires, one.ensures.count)) two.ensures.count two.ensures.after c.put.ensures.after)),
    )
