use Rattle.std.proofs.Common.{arith}
use Rattle.backing.proofs.Rounds.{script_paced}
use Rattle.backing.proofs.Timed.{timed_laws}
use Rattle.backing.specs.Script.{script_answers, script_owed, script_pace, ScriptSteps}
use Rattle.bottom.specs.Scripted.{scripted_limit, scripted_facts, ScriptedReads, ScriptedWrites, ScriptedSteps}
use Rattle.bottom.specs.declared.scripted.Scripted.{Scripted}
use Rattle.memory.specs.Laws.{Laws}

-- the memory that answers as a script says keeps the laws of a memory
pub scripted_laws : Laws scripted_facts ScriptedReads ScriptedWrites ScriptedSteps
scripted_laws = timed_laws (λ (s : Scripted). s.backing) (λ s. s.script) script_owed script_pace script_answers (λ c n d. ScriptSteps c d) script_paced scripted_limit (omega arith)
