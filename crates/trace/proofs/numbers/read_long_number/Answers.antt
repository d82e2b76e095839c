use Rattle.std.proofs.Common.{rules}
use Rattle.trace.proofs.NumberRead.{runs_off}
use Rattle.trace.proofs.numbers.read_long_number.Goals as goal

pub returns-in_err-last-clause-value : goal.returns-in_err-last-clause-value
returns-in_err-last-clause-value c = search (rules, runs_off)
