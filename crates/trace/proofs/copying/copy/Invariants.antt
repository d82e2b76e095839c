use Rattle.std.proofs.Common.{◌≡◌, ◌-◌, length}
use Rattle.trace.specs.Writer.{lender_of}
use Rattle.trace.proofs.Fronts.{Front}
use Rattle.trace.proofs.copying.copy.Given as goal

abbrev pub invariant-loop-record : goal.invariant-loop-record
invariant-loop-record l = (l.reader.trace.now ≡ l.trace) × (l.writer.written ≡ l.reader.offset) × (lender_of l.writer ≡ lender_of l.initial.writer) × Front l.trace l.reader.offset l.fn.buffer l.writer.buffer.now

abbrev pub decreases-loop-record : goal.decreases-loop-record
decreases-loop-record l = length l.trace - l.reader.offset
