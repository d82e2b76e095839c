use Rattle.std.proofs.Common.{rules}
use Rattle.line.proofs.Masks.{shifted_mask, value_mask_bits}
use Rattle.line.proofs.span.Span.mask.Goals as goal

pub returns-clause-value : goal.returns-clause-value
returns-clause-value c = search (rules, shifted_mask)

pub returns-clause-bits : goal.returns-clause-bits
returns-clause-bits c = search (rules, shifted_mask, value_mask_bits)
