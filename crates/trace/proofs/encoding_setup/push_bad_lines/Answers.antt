use Rattle.std.proofs.Common.{◌≡◌, ◌+◌, ◌++◌, get_or, take, drop, sym, ap, ◌∙◌, subst, append_assoc}
use Rattle.std.proofs.lemmas.List.{at_drop_more}
use Rattle.std.specs.List.{flat_map}
use Rattle.memory.specs.declared.bad_line.BadLine.{BadLine}
use Rattle.trace.specs.Encode.{bad_line_bytes, Fits}
use Rattle.trace.specs.Numbers.{spelled}
use Rattle.trace.proofs.Groups.{room_first}
use Rattle.trace.proofs.encoding_setup.push_bad_lines.Goals as goal

pub push_bad_line-requires : goal.push_bad_line-requires
push_bad_line-requires c =
    let none : BadLine = record { line = 0; cause = 0 } in
    let items = c.front-bad-items.result.now in
    let i = c.loop-bad.bad-index in
    let same : take c.args.count c.args.bad_lines.now ≡ items = sym (c.front-bad-items.ensures ∙ ap (λ n. take n c.args.bad_lines.now) c.from-2.ensures) in
    let fits = subst (λ l. Fits c.args.bytes.now (spelled c.args.count ++ flat_map bad_line_bytes l)) same c.requires in
    room_first c.loop-bad.bytes.items c.args.bytes.now.items _ (bad_line_bytes (get_or items i none)) (flat_map bad_line_bytes (drop (i + 1) items))
    (ap (λ l. c.loop-bad.bytes.items ++ l) (sym (at_drop_more (flat_map bad_line_bytes) items i none c.loop-bad-test.true)) ∙ c.loop-bad.invariant) fits

pub loop-bad-preserved : goal.loop-bad-preserved
loop-bad-preserved c =
    let none : BadLine = record { line = 0; cause = 0 } in
    let items = c.front-bad-items.result.now in
    let i = c.loop-bad.bad-index in
    let held = c.loop-bad.bytes.items in
    let rest = flat_map bad_line_bytes (drop (i + 1) items) in
    ap (λ l. l ++ rest) c.push_bad_line.ensures
    ∙ append_assoc held (bad_line_bytes (get_or items i none)) rest
    ∙ ap (λ l. held ++ l) (sym (at_drop_more (flat_map bad_line_bytes) items i none c.loop-bad-test.true))
    ∙ c.loop-bad.invariant
