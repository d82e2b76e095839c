use Rattle.std.proofs.Common.{arith}
use Rattle.backing.proofs.Counting.{clock_paced}
use Rattle.backing.proofs.Timed.{timed_laws}
use Rattle.backing.specs.Clock.{clock_answers, clock_owed, clock_pace, ClockSteps}
use Rattle.bottom.specs.Ordered.{ordered_limit, ordered_facts, OrderedReads, OrderedWrites, OrderedSteps}
use Rattle.bottom.specs.declared.ordered.Ordered.{Ordered}
use Rattle.memory.specs.Laws.{Laws}

-- the memory that answers in order keeps the laws of a memory
pub ordered_laws : Laws ordered_facts OrderedReads OrderedWrites OrderedSteps
ordered_laws = timed_laws (λ (s : Ordered). s.backing) (λ s. s.clock) clock_owed clock_pace clock_answers ClockSteps clock_paced ordered_limit (omega arith)
