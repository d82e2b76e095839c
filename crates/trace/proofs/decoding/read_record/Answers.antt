use Rattle.std.proofs.Common.{◌≡◌, ◌+◌, drop, ◌==◌, arith}
use Rattle.std.proofs.lemmas.Grind.{common_steps}
use Rattle.std.proofs.lemmas.List.{get_or-drop}
use Rattle.trace.specs.Filled.{seen, record_onto}
use Rattle.trace.proofs.ReadFrom.{read_back_of}
use Rattle.trace.proofs.decoding.read_record.Goals as goal

pub returns-clause-read_back : goal.returns-clause-read_back
returns-clause-read_back c =
    let value : seen c.read_front.result ≡ record_onto c.args.buffer (c.args.at == 0) (drop c.args.at c.args.trace.now) = grind (arith, common_steps) in
    read_back_of (c.args.at == 0) (drop c.args.at c.args.trace.now) c.args.buffer (λ k. rw get_or-drop (omega (arith, c.type_inv.trace (c.args.at + k)))) c.read_front.result value
