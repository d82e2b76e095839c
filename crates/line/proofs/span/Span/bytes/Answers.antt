use Rattle.std.proofs.Common.{◌≤◌, arith, rules}
use native.Mathlib.Nat.{div-div-eq-div-mul}
use Rattle.line.proofs.Numbers.{copied, laid_back}
use Rattle.line.proofs.span.Span.bytes.Goals as goal
use Rattle.std.proofs.lemmas.Bool.Decides.{nat_tests}

pub returns-clause-value : goal.returns-clause-value
returns-clause-value c =
    let s = c.args.self in
    let small : s.size ≤ 8 = grind (arith, nat_tests) in
    rw (c.from-from.ensures, c.from-count.ensures)
    (copied s.offset s.size c.args.value c.to_le_bytes.result c.copy_from_slice.new.self s.inside small (simp div-div-eq-div-mul c.to_le_bytes.ensures) (search rules))

pub returns-clause-back : goal.returns-clause-back
returns-clause-back c = let s = c.args.self in rw (returns-clause-value c) (λ line whole fits. laid_back s.offset s.size c.args.value line s.inside whole fits)
