use Rattle.std.proofs.Common.{◌≡◌, ◌+◌, length, Some, None, Ok, Err, refl, rules, sym, ap, ◌∙◌, subst, inl, inr, arith}
use Rattle.std.proofs.lemmas.Result.{err_from_is_err_and}
use Rattle.trace.specs.Encode.{encode}
use Rattle.trace.specs.Items.{item_of}
use Rattle.trace.specs.Copied.{Copied}
use Rattle.trace.specs.Reading.{ended, reading, refused}
use Rattle.trace.specs.Writing.{writing, written_after, buffer_after}
use Rattle.trace.proofs.Runs.{given, gave_there, answered, ends_at}
use Rattle.trace.proofs.Fronts.{Front, front_start, front_further, front_done, front_stopped}
use Rattle.trace.proofs.Grown.{record_fits}
use Rattle.trace.proofs.copying.copy.Goals as goal

pub loop-record-init : goal.loop-record-init
loop-record-init c =
    let trace = c.args.trace.now in
    let before = c.args.buffer.now in (
      c.new-reader.ensures.trace,
      c.new-writer.ensures.written ∙ sym c.new-reader.ensures.offset,
      refl,
      subst (Front trace c.new-reader.result.offset before) (sym c.new-writer.ensures.buffer)
          (subst (λ k. Front trace k before before) (sym c.new-reader.ensures.offset) (front_start trace before)),
    )

pub returns-in_err-record : goal.returns-in_err-record
returns-in_err-record c =
    let trace = c.args.trace.now in
    let at = c.loop-record.reader.offset in
    let before = c.args.buffer.now in
    let after = c.loop-record.writer.buffer.now in
    let e = c.in_err-record.field-0.0 in
    let here : e.offset ≡ at = c.in_err-record.ensures.read_back in
    let there : reading trace at ≡ refused e.refusal at =
    sym (ap (λ t. reading t at) c.loop-record.invariant.0) ∙ sym c.in_err-record.ensures.value ∙ ap (refused e.refusal) here in
    let p = err_from_is_err_and c.from_residual.result c.from_residual.ensures.1 in
    rw (p.1, p.2) (subst (λ b. Copied trace before b (Err e)) (search rules) (front_stopped trace at before after e c.loop-record.invariant.3 here (inl there)))

pub returns-in_default : goal.returns-in_default
returns-in_default c =
    let trace = c.args.trace.now in
    let e = answered c.loop-record.reader.trace.now c.loop-record.reader.offset c.in_ok-record.field-0 None c.next.new.buffer c.next.new.self.offset c.in_default.is c.in_ok-record.ensures.value c.in_ok-record.ensures.read_back in
    let g = gave_there c.loop-record.reader.offset ended c.loop-record.invariant.0 e in
    subst (λ b. Copied trace c.args.buffer.now b (Ok tt)) (search rules)
    (front_done trace c.loop-record.reader.offset c.args.buffer.now c.loop-record.writer.buffer.now (λ k. omega (arith, c.type_inv.trace k)) c.loop-record.invariant.3 g.0 g.1)

pub loop-record-smaller : goal.loop-record-smaller
loop-record-smaller c =
    let e = answered c.loop-record.reader.trace.now c.loop-record.reader.offset c.in_ok-record.field-0 (Some c.in-Some.record) c.next.new.buffer c.next.new.self.offset c.in-Some.is c.in_ok-record.ensures.value c.in_ok-record.ensures.read_back in
    let g = given c.loop-record.reader.offset (item_of c.in-Some.record c.next.new.buffer) c.next.new.self.offset c.loop-record.invariant.0 c.loop-record.reader.inside e in
    omega (arith, g.on, g.inside)

pub loop-record-preserved : goal.loop-record-preserved
loop-record-preserved c =
    let trace = c.args.trace.now in
    let at = c.loop-record.reader.offset in
    let to = c.next.new.self.offset in
    let mid = c.loop-record.writer.buffer.now in
    let item = item_of c.in-Some.record c.next.new.buffer in
    let e = answered c.loop-record.reader.trace.now at c.in_ok-record.field-0 (Some c.in-Some.record) c.next.new.buffer to c.in-Some.is c.in_ok-record.ensures.value c.in_ok-record.ensures.read_back in
    let g = given at item to c.loop-record.invariant.0 c.loop-record.reader.inside e in
    let done : c.write.result ≡ Ok tt = search rules in
    let w = c.write.ensures in
    let written : c.loop-record.writer.written ≡ at = c.loop-record.invariant.1 in
    let fits = record_fits at (length mid) item (ap (λ k. writing k (length mid) item) (sym written) ∙ sym w.value ∙ done) in (
      c.in_ok-record.ensures.trace ∙ c.loop-record.invariant.0,
      w.written ∙ ap (λ r. written_after r c.loop-record.writer.written (encode item)) done ∙ ap (λ k. k + length (encode item)) written ∙ sym (ends_at trace (encode item) at to g.before g.inside g.bytes),
      w.lender ∙ c.loop-record.invariant.2,
      front_further trace at to item c.args.buffer.now mid c.write.new.self.buffer.now c.loop-record.invariant.3 g.before g.gives g.inside g.bytes fits
          (w.buffer ∙ ap (λ r. buffer_after r c.loop-record.writer.written (encode item) mid) done ∙ ap (λ k. buffer_after (Ok tt) k (encode item) mid) written),
    )

pub returns-in_err-map_err : goal.returns-in_err-map_err
returns-in_err-map_err c =
    let trace = c.args.trace.now in
    let at = c.loop-record.reader.offset in
    let to = c.next.new.self.offset in
    let before = c.args.buffer.now in
    let mid = c.loop-record.writer.buffer.now in
    let after = c.write.new.self.buffer.now in
    let item = item_of c.in-Some.record c.next.new.buffer in
    let e = c.in_err-map_err.field-0.0 in
    let o = answered c.loop-record.reader.trace.now at c.in_ok-record.field-0 (Some c.in-Some.record) c.next.new.buffer to c.in-Some.is c.in_ok-record.ensures.value c.in_ok-record.ensures.read_back in
    let g = given at item to c.loop-record.invariant.0 c.loop-record.reader.inside o in
    let w : c.write.result ≡ Err e.refusal = search rules in
    let here : e.offset ≡ at = search rules in
    let written : c.loop-record.writer.written ≡ at = c.loop-record.invariant.1 in
    let kept : after ≡ mid = c.write.ensures.buffer ∙ ap (λ r. buffer_after r c.loop-record.writer.written (encode item) mid) w in
    let refused : writing at (length after) item ≡ Err e.refusal =
    ap (λ q. writing at (length q) item) kept ∙ ap (λ k. writing k (length mid) item) (sym written) ∙ sym c.write.ensures.value ∙ w in
    let p = err_from_is_err_and c.from_residual-in_err-map_err.result c.from_residual-in_err-map_err.ensures.1 in
    rw (p.1, p.2)
    (subst (λ b. Copied trace before b (Err e)) (search rules)
    (front_stopped trace at before after e (subst (Front trace at before) (sym kept) c.loop-record.invariant.3) here (inr (item, to, g.gives, refused))))
