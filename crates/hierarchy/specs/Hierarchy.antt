-- a hierarchy that is chosen when the program runs: its facts and its calls are those of the level on top
use Rattle.std.specs.Prelude.{◌≡◌, ℕ, List, Some, None, Option, Result}
use Rattle.hierarchy.specs.declared.any_bottom.AnyBottom.{AnyBottom}
use Rattle.hierarchy.specs.declared.any_rule.AnyRule.{AnyRule}
use Rattle.hierarchy.specs.declared.hierarchy.Hierarchy.{Hierarchy}
use Rattle.hierarchy.specs.declared.hierarchy.Hierarchy.TheVariants.{OneLevel, TwoLevels}
use Rattle.hierarchy.specs.Pace.{one_level_pace, two_levels_pace}
use Rattle.level.specs.Level.{level_below, level_rule, level_tables, level_known, LevelReads, LevelWrites, LevelSteps}
use Rattle.level.specs.declared.level.Level.{Level}
use Rattle.level_model.specs.Tables.{empty_tables}
use Rattle.memory.specs.Meaning.{Facts}
use Rattle.memory.specs.declared.memory.Memory as memory
use Rattle.memory.specs.declared.refusal.Refusal.{Refusal}
use Rattle.memory.specs.declared.replies.Answer.{Answer}
use Rattle.memory.specs.declared.state.State as state
use Rattle.replacement.specs.declared.rule.Replacement as rule

-- the memory at the bottom
abbrev pub hierarchy_bottom : Hierarchy → AnyBottom
hierarchy_bottom (OneLevel level) = level_below level
hierarchy_bottom (TwoLevels level) = level_below (level_below level)

-- what there is to know of it
abbrev pub hierarchy_facts : Hierarchy → Facts
hierarchy_facts (OneLevel level) = level_known level
hierarchy_facts (TwoLevels level) = level_known level

-- a read
abbrev pub HierarchyReads : Hierarchy → ℕ → Result ℕ Refusal → Hierarchy → Type 0
HierarchyReads (OneLevel s) line r (OneLevel t) = LevelReads s line r t
HierarchyReads (TwoLevels s) line r (TwoLevels t) = LevelReads s line r t
HierarchyReads (OneLevel s) line r (TwoLevels t) = ⊥
HierarchyReads (TwoLevels s) line r (OneLevel t) = ⊥

-- a write
abbrev pub HierarchyWrites : Hierarchy → ℕ → ℕ → List ℕ → Result ℕ Refusal → Hierarchy → Type 0
HierarchyWrites (OneLevel s) line mask new r (OneLevel t) = LevelWrites s line mask new r t
HierarchyWrites (TwoLevels s) line mask new r (TwoLevels t) = LevelWrites s line mask new r t
HierarchyWrites (OneLevel s) line mask new r (TwoLevels t) = ⊥
HierarchyWrites (TwoLevels s) line mask new r (OneLevel t) = ⊥

-- a step
abbrev pub HierarchySteps : Hierarchy → List ℕ → Option Answer → Hierarchy → List ℕ → Type 0
HierarchySteps (OneLevel s) before r (OneLevel t) after = LevelSteps s before r t after
HierarchySteps (TwoLevels s) before r (TwoLevels t) after = LevelSteps s before r t after
HierarchySteps (OneLevel s) before r (TwoLevels t) after = ⊥
HierarchySteps (TwoLevels s) before r (OneLevel t) after = ⊥

-- the facts of all hierarchies, and the relations of their calls
abbrev pub known_hierarchy : state.Ghosts Hierarchy
known_hierarchy = record {
  lines = λ s. (hierarchy_facts s).lines;
  contents = λ s. (hierarchy_facts s).contents;
  bad = λ s. (hierarchy_facts s).bad;
  due = λ s. (hierarchy_facts s).due;
  owed = λ s. (hierarchy_facts s).owed;
  pace = λ s. (hierarchy_facts s).pace;
}

abbrev pub hierarchy_moves : memory.Ghosts Hierarchy
hierarchy_moves = record { reads = HierarchyReads; writes = HierarchyWrites; steps = HierarchySteps }

-- a level that holds nothing, with this rule on this memory
abbrev pub EmptyLevel : {S Q : Type 0} {calls : memory.Ghosts S} {known : state.Ghosts S} {rk : rule.Ghosts Q} → S → Q → Level S Q calls known rk → Type 0
EmptyLevel below q level = (level_below level ≡ below) × (level_rule level ≡ q) × (level_tables level ≡ empty_tables)

-- a hierarchy whose levels hold nothing, with these rules, the lowest first, on this memory
abbrev pub NewHierarchy : AnyBottom → AnyRule → Option AnyRule → Hierarchy → Type 0
NewHierarchy bottom lowest None (OneLevel level) = EmptyLevel bottom lowest level
NewHierarchy bottom lowest (Some upper) (TwoLevels level) = EmptyLevel bottom lowest (level_below level) × EmptyLevel (level_below level) upper level
NewHierarchy bottom lowest None (TwoLevels level) = ⊥
NewHierarchy bottom lowest (Some upper) (OneLevel level) = ⊥

-- the pace of a hierarchy with these levels above the lowest, on a memory with this pace
abbrev pub hierarchy_pace : Option AnyRule → ℕ → ℕ
hierarchy_pace None p = one_level_pace p
hierarchy_pace (Some upper) p = two_levels_pace p

-- what is known of levels that hold nothing, by what is known of the memory below them
pub record StandsOver (upper : Option AnyRule) (f h : Facts) : Type 0 where
  pub lines : h.lines ≡ f.lines
  pub contents : (line : ℕ) → h.contents line ≡ f.contents line
  pub bad : (line : ℕ) → h.bad line ≡ f.bad line
  pub pace : h.pace ≡ hierarchy_pace upper f.pace
