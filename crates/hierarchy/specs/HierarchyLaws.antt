use Rattle.std.specs.Prelude.{ℕ, List, Option, Result}
use Rattle.hierarchy.specs.AnyBottomLaws.{bottom_laws}
use Rattle.hierarchy.specs.AnyRule.{any_once}
use Rattle.hierarchy.specs.Hierarchy.{hierarchy_facts, HierarchyReads, HierarchyWrites, HierarchySteps}
use Rattle.hierarchy.specs.declared.hierarchy.Hierarchy.{Hierarchy}
use Rattle.hierarchy.specs.declared.hierarchy.Hierarchy.TheVariants.{OneLevel, TwoLevels}
use Rattle.level.specs.Laws.{level_laws}
use Rattle.memory.specs.Laws.{Laws}
use Rattle.memory.specs.Meaning.{Well, ReadMeans, WriteMeans, StepMeans}
use Rattle.memory.specs.declared.refusal.Refusal.{Refusal}
use Rattle.memory.specs.declared.replies.Answer.{Answer}

well : (s : Hierarchy) → Well (hierarchy_facts s)
well (OneLevel s) = (level_laws any_once bottom_laws).well s
well (TwoLevels s) = (level_laws any_once (level_laws any_once bottom_laws)).well s

reading : (s t : Hierarchy) (line : ℕ) (r : Result ℕ Refusal) → HierarchyReads s line r t → ReadMeans (hierarchy_facts s) line r (hierarchy_facts t)
reading (OneLevel s) (OneLevel t) line r moved = (level_laws any_once bottom_laws).reading s t line r moved
reading (TwoLevels s) (TwoLevels t) line r moved = (level_laws any_once (level_laws any_once bottom_laws)).reading s t line r moved
reading (OneLevel s) (TwoLevels t) line r moved = absurd moved
reading (TwoLevels s) (OneLevel t) line r moved = absurd moved

writing : (s t : Hierarchy) (line mask : ℕ) (new : List ℕ) (r : Result ℕ Refusal) → HierarchyWrites s line mask new r t → WriteMeans (hierarchy_facts s) line mask new r (hierarchy_facts t)
writing (OneLevel s) (OneLevel t) line mask new r moved = (level_laws any_once bottom_laws).writing s t line mask new r moved
writing (TwoLevels s) (TwoLevels t) line mask new r moved = (level_laws any_once (level_laws any_once bottom_laws)).writing s t line mask new r moved
writing (OneLevel s) (TwoLevels t) line mask new r moved = absurd moved
writing (TwoLevels s) (OneLevel t) line mask new r moved = absurd moved

stepping : (s t : Hierarchy) (before after : List ℕ) (r : Option Answer) → HierarchySteps s before r t after → StepMeans (hierarchy_facts s) before r (hierarchy_facts t) after
stepping (OneLevel s) (OneLevel t) before after r moved = (level_laws any_once bottom_laws).stepping s t before after r moved
stepping (TwoLevels s) (TwoLevels t) before after r moved = (level_laws any_once (level_laws any_once bottom_laws)).stepping s t before after r moved
stepping (OneLevel s) (TwoLevels t) before after r moved = absurd moved
stepping (TwoLevels s) (OneLevel t) before after r moved = absurd moved

-- a hierarchy keeps the laws of a memory, by those of its level on top over what stands below
pub hierarchy_laws : Laws hierarchy_facts HierarchyReads HierarchyWrites HierarchySteps
hierarchy_laws = record { well = well; reading = reading; writing = writing; stepping = stepping }
