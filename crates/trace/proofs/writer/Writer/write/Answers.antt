use Rattle.std.proofs.Common.{◌≡◌, ◌+◌, length, take, sym, ap, ◌∙◌, subst}
use Rattle.trace.specs.Items.{item_of}
use Rattle.trace.specs.Writing.{Grows}
use Rattle.trace.proofs.writer.Writer.write.Goals as goal

pub returns-clause-whole : goal.returns-clause-whole
returns-clause-whole c =
    let item = item_of c.args.record.now c.args.setup_buffer.now in
    let from = c.args.self.now.written in
    let size : length c.as_slice.result.now ≡ c.len.result = ap length c.as_slice.ensures.value ∙ sym c.len.ensures.value in
    subst (λ n. Grows from (take from c.args.self.now.buffer.now) (take (from + n) c.put.new.buffer) item) size
    (c.in_ok-put.ensures.whole item (c.as_slice.ensures.value ∙ c.encoded-bytes.ensures) (sym (c.if-is_misplaced.ensures c.args.setup_buffer.now)) (sym c.if-not-record_in_limits.ensures))
