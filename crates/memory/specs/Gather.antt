use Rattle.memory.specs.Meaning.{Facts}
use Rattle.memory.specs.declared.state.State.{Ghosts}

-- the facts of a memory in one record
abbrev pub facts : {S : Type 0} → Ghosts S → S → Facts
facts k s = record { lines = k.lines s; contents = k.contents s; bad = k.bad s; due = k.due s; owed = k.owed s; pace = k.pace s }
