-- that a port kept its promise in a run of calls, said of the memory's lines, bytes, faults and pace alone
use Rattle.std.specs.Prelude.{◌≡◌, ℕ, List, reverse}
use Rattle.hierarchy.specs.Begins.{OnImage}
use Rattle.level_model.specs.Facts.{Covers}
use Rattle.memory.specs.Meaning.{Facts}
use Rattle.memory.specs.declared.bad_line.BadLine.{BadLine}
use Rattle.port.specs.Numbers.{counted_ration}
use Rattle.port.specs.Promise.{Promised}
use Rattle.port.specs.Run.{Recorded}
use Rattle.port.specs.declared.event.Event.{Event}
use Rattle.port.specs.declared.run.Entry.{Entry}

-- a port that was opened on a memory with these facts and this ration kept its whole promise in the calls of these entries
pub record KeptOn (opened : Facts) (ration : ℕ) (before after : List Entry) : Type 0 where
  -- what became of the calls, in their order
  pub events : List Event
  -- each stands beside its call
  pub recorded : Recorded before events after
  pub promised : Promised opened (counted_ration ration) (reverse events)

-- the same on a memory that has the lines of an image, their bytes the faults of these bad lines, which name level 0, and this pace
pub record KeptOnImage (image : List ℕ) (bad_lines : List BadLine) (pace ration : ℕ) (before after : List Entry) : Type 0 where
  pub opened : Facts
  pub on_image : OnImage image 0 bad_lines opened
  pub pace_is : opened.pace ≡ pace
  pub kept : KeptOn opened ration before after

-- the same on a level that holds nothing, on a memory with the facts `below`
pub record KeptOnLevel (below : Facts) (ration : ℕ) (before after : List Entry) : Type 0 where
  pub opened : Facts
  pub covers : Covers below opened
  pub kept : KeptOn opened ration before after
