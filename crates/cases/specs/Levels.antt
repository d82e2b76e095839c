use Rattle.backing.specs.Clock.{counted_latency}
use Rattle.cases.specs.Row.{Row}
use Rattle.hierarchy.specs.Pace.{two_levels_pace}
use Rattle.level_model.specs.Facts.{level_facts}
use Rattle.level_model.specs.Tables.{empty_tables}
use Rattle.memory.specs.Meaning.{Facts}
use Rattle.replacement.specs.declared.geometry.Geometry.{Geometry}
use Rattle.std.specs.Prelude.{refl, ℕ, List, [], ◌∷◌, replicate, None}

-- what is known of a memory with 4 lines of zeros and this pace, on which nothing is open
abbrev with_pace : ℕ → Facts
with_pace p = record { lines = 4; contents = λ line. replicate 16 0; bad = λ line. None; due = λ ticket. None; owed = 0; pace = p }

-- 1 set of 1 way
abbrev one_way : Geometry
one_way = record { sets = 1; ways = 1; sets_count = refl; ways_count = refl }

-- of a level that holds nothing on a memory
abbrev level_on : Facts → Facts
level_on f = level_facts f one_way empty_tables

-- worked examples of levels
abbrev pub level_rows : List Row
level_rows =
    -- two levels on latency 1 have pace 13: by what is known of a level, and by the rule for two
    record { computed = (level_on (level_on (with_pace (counted_latency 1)))).pace ∷ two_levels_pace (counted_latency 1) ∷ []; wanted = 13 ∷ 13 ∷ [] }
    ∷ []
