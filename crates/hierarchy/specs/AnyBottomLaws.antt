use Rattle.std.specs.Prelude.{ℕ, List, Option, Result}
use Rattle.bottom.specs.OrderedLaws.{ordered_laws}
use Rattle.bottom.specs.ScriptedLaws.{scripted_laws}
use Rattle.hierarchy.specs.AnyBottom.{bottom_facts, BottomReads, BottomWrites, BottomSteps}
use Rattle.hierarchy.specs.declared.any_bottom.AnyBottom.{AnyBottom}
use Rattle.hierarchy.specs.declared.any_bottom.AnyBottom.TheVariants.{Ordered, Scripted}
use Rattle.memory.specs.Laws.{Laws}
use Rattle.memory.specs.Meaning.{Well, ReadMeans, WriteMeans, StepMeans}
use Rattle.memory.specs.declared.refusal.Refusal.{Refusal}
use Rattle.memory.specs.declared.replies.Answer.{Answer}

well : (s : AnyBottom) → Well (bottom_facts s)
well (Ordered s) = ordered_laws.well s
well (Scripted s) = scripted_laws.well s

reading : (s t : AnyBottom) (line : ℕ) (r : Result ℕ Refusal) → BottomReads s line r t → ReadMeans (bottom_facts s) line r (bottom_facts t)
reading (Ordered s) (Ordered t) line r moved = ordered_laws.reading s t line r moved
reading (Scripted s) (Scripted t) line r moved = scripted_laws.reading s t line r moved
reading (Ordered s) (Scripted t) line r moved = absurd moved
reading (Scripted s) (Ordered t) line r moved = absurd moved

writing : (s t : AnyBottom) (line mask : ℕ) (new : List ℕ) (r : Result ℕ Refusal) → BottomWrites s line mask new r t → WriteMeans (bottom_facts s) line mask new r (bottom_facts t)
writing (Ordered s) (Ordered t) line mask new r moved = ordered_laws.writing s t line mask new r moved
writing (Scripted s) (Scripted t) line mask new r moved = scripted_laws.writing s t line mask new r moved
writing (Ordered s) (Scripted t) line mask new r moved = absurd moved
writing (Scripted s) (Ordered t) line mask new r moved = absurd moved

stepping : (s t : AnyBottom) (before after : List ℕ) (r : Option Answer) → BottomSteps s before r t after → StepMeans (bottom_facts s) before r (bottom_facts t) after
stepping (Ordered s) (Ordered t) before after r moved = ordered_laws.stepping s t before after r moved
stepping (Scripted s) (Scripted t) before after r moved = scripted_laws.stepping s t before after r moved
stepping (Ordered s) (Scripted t) before after r moved = absurd moved
stepping (Scripted s) (Ordered t) before after r moved = absurd moved

-- a memory at the bottom keeps the laws of a memory, whichever was chosen
pub bottom_laws : Laws bottom_facts BottomReads BottomWrites BottomSteps
bottom_laws = record { well = well; reading = reading; writing = writing; stepping = stepping }
