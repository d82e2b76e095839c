-- the runs, exactly: how the hierarchy was made, what the calls did, and what is given back; `st` has what there is to know of the
-- hierarchy
use Rattle.std.specs.Prelude.{◌≡◌, ℕ, List}
use Rattle.std.specs.Borrow.{MutBor}
use Rattle.backing.specs.Image.{lent_bytes}
use Rattle.bottom.specs.Ordered.{ordered_image, OrderedBegins}
use Rattle.bottom.specs.Scripted.{scripted_image, ScriptedBegins}
use Rattle.bottom.specs.declared.ordered.Ordered.{Ordered}
use Rattle.bottom.specs.declared.scripted.Scripted.{Scripted}
use Rattle.hierarchy.specs.Begins.{NewLevel}
use Rattle.level.specs.Level.{level_below, level_rule, level_tables, LevelReads, LevelWrites, LevelSteps}
use Rattle.level.specs.declared.level.Level.{Level}
use Rattle.level_model.specs.Tables.{empty_tables}
use Rattle.memory.specs.declared.bad_line.BadLine.{BadLine}
use Rattle.memory.specs.declared.memory.Memory as memory
use Rattle.memory.specs.declared.state.State as state
use Rattle.port.specs.Run.{Ran}
use Rattle.port.specs.declared.run.Entry.{Entry}
use Rattle.replacement.specs.declared.fifo.Fifo.{Fifo}
use Rattle.replacement.specs.declared.geometry.Geometry.{Geometry}
use Rattle.replacement.specs.declared.lru.Lru.{Lru}
use Rattle.replacement.specs.declared.rule.Replacement as rule

-- the calls of a level, exactly
abbrev pub level_moves : {S Q : Type 0} {calls : memory.Ghosts S} {known : state.Ghosts S} {rk : rule.Ghosts Q} → memory.Ghosts (Level S Q calls known rk)
level_moves = record { reads = LevelReads; writes = LevelWrites; steps = LevelSteps }

module _ {S Q : Type 0} {calls : memory.Ghosts S} {known : state.Ghosts S} {rk : rule.Ghosts Q} (st : state.Ghosts (Level S Q calls known rk)) where
  -- a run on a level that holds nothing, with this rule on this memory
  pub record RanOnLevel (below : S) (rule : Q) (ration : ℕ) (before after : List Entry) (given_back : S) : Type 0 where
    -- the level as it was made
    pub level : Level S Q calls known rk
    pub below_is : level_below level ≡ below
    pub rule_is : level_rule level ≡ rule
    pub tables_are : level_tables level ≡ empty_tables
    -- the calls led from there to the level at the end
    pub last : Level S Q calls known rk
    pub ran : Ran st level_moves level ration before after last
    -- and the memory below it is given back
    pub memory_back : given_back ≡ level_below last

module _ {calls : memory.Ghosts Ordered} {known : state.Ghosts Ordered} {rk : rule.Ghosts Lru} (st : state.Ghosts (Level Ordered Lru calls known rk)) where
  -- a run on one level with LRU, on the memory that answers in order
  pub record RanOnOrdered (image : MutBor (List ℕ)) (bad_lines : List BadLine) (latency : ℕ) (geometry : Geometry) (ration : ℕ) (before after : List Entry) (given_back : MutBor (List ℕ)) : Type 0 where
    -- the level as it was made: it holds nothing, on a new memory on the image
    pub level : Level Ordered Lru calls known rk
    pub new : NewLevel geometry level
    pub bottom : OrderedBegins 0 bad_lines latency (level_below level)
    pub lent : lent_bytes (ordered_image (level_below level)) ≡ image
    -- the calls led from there to the level at the end
    pub last : Level Ordered Lru calls known rk
    pub ran : Ran st level_moves level ration before after last
    -- and the image of the memory below it is given back
    pub image_back : given_back ≡ lent_bytes (ordered_image (level_below last))

module _
    {calls : memory.Ghosts Scripted} {known : state.Ghosts Scripted} {lru : rule.Ghosts Lru}
    {lower_calls : memory.Ghosts (Level Scripted Lru calls known lru)} {lower_known : state.Ghosts (Level Scripted Lru calls known lru)} {fifo : rule.Ghosts Fifo}
    (st : state.Ghosts (Level (Level Scripted Lru calls known lru) Fifo lower_calls lower_known fifo)) where
  -- a run on a level with FIFO, on one with LRU, on the memory that answers as a script says
  pub record RanOnScripted (image : MutBor (List ℕ)) (bad_lines : List BadLine) (script : List ℕ) (lower upper : Geometry) (ration : ℕ) (before after : List Entry) (given_back : MutBor (List ℕ)) : Type 0 where
    -- the levels as they were made: they hold nothing, on a new memory on the image
    pub levels : Level (Level Scripted Lru calls known lru) Fifo lower_calls lower_known fifo
    pub new_upper : NewLevel upper levels
    pub new_lower : NewLevel lower (level_below levels)
    pub bottom : ScriptedBegins 0 bad_lines script (level_below (level_below levels))
    pub lent : lent_bytes (scripted_image (level_below (level_below levels))) ≡ image
    -- the calls led from there to the levels at the end
    pub last : Level (Level Scripted Lru calls known lru) Fifo lower_calls lower_known fifo
    pub ran : Ran st level_moves levels ration before after last
    -- and the image of the memory below them is given back
    pub image_back : given_back ≡ lent_bytes (scripted_image (level_below (level_below last)))
