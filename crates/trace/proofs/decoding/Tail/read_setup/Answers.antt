use Rattle.std.proofs.Common.{◌≡◌, ap, ◌∙◌, sym, rules}
use Rattle.trace.specs.declared.records.Setup.{Setup}
use Rattle.trace.specs.declared.records.SetupBuffer.{SetupBuffer}
use Rattle.trace.specs.Parsed.{Took, and_then}
use Rattle.trace.proofs.FilledSetup.{setup_onto, with_buffer, setup_filled}
use Rattle.trace.proofs.decoding.Tail.read_setup.Goals as goal

pub returns-clause-value : goal.returns-clause-value
returns-clause-value c =
    let s : Setup = record { lines = c.in_ok-lines.lines; bottom = c.in_ok-bottom.bottom; bad_line_count = c.in_ok-count.count; lowest = c.in_ok-lowest.lowest; upper = c.in_ok-lowest.upper } in
    let p : SetupBuffer = record { script = c.in_ok-bottom.script; bad_lines = c.in_ok-bad_lines.bad_lines } in
    let read : setup_onto c.args.buffer c.args.self.bytes.now ≡ Took (s, p) c.in_ok-lowest.rest.now = search rules in
    ap (λ q. and_then q (with_buffer c.args.buffer)) (sym read) ∙ setup_filled c.args.buffer c.args.self.bytes.now
