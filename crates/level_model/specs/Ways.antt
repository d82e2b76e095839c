use Rattle.std.specs.Prelude.{ℕ, ◌+◌, ◌*◌, Bool, true, false, if◌then◌else◌, List, [], ◌∷◌, map, position, replicate, set, take, Option, ◌==◌, not, slice_index_or}
use Rattle.level_model.specs.Limits.{most_sets, most_ways}
use Rattle.level_model.specs.declared.ways.Way.{Way}
use Rattle.level_model.specs.declared.ways.Way.TheVariants.{Empty, Reserved, Filled}
use Rattle.level_model.specs.declared.ways.Ways.{Ways}

-- ways that are all empty
abbrev pub empty_ways : Ways
empty_ways = record { sets = replicate most_sets (replicate most_ways Empty) }

abbrev pub is_empty : Way → Bool
is_empty Empty = true
is_empty (Reserved line) = false
is_empty (Filled held) = false

abbrev pub is_reserved : Way → Bool
is_reserved Empty = false
is_reserved (Reserved line) = true
is_reserved (Filled held) = false

-- whether a way holds a line
abbrev pub holds : ℕ → Way → Bool
holds line Empty = false
holds line (Reserved awaited) = false
holds line (Filled held) = held.line == line

-- whether a way holds a line, or is reserved for it
abbrev pub is_for : ℕ → Way → Bool
is_for line Empty = false
is_for line (Reserved awaited) = awaited == line
is_for line (Filled held) = held.line == line

-- the ways of a set
abbrev pub row : Ways → ℕ → List Way
row ways set = slice_index_or ways.sets set []

-- a way of a set
abbrev pub way_at : Ways → ℕ → ℕ → Way
way_at ways set way = slice_index_or (row ways set) way Empty

-- the first of these ways that holds a line
abbrev pub holding : ℕ → List Way → Option ℕ
holding line ws = position (holds line) ws

-- the first that holds it or is reserved for it
abbrev pub index_for : ℕ → List Way → Option ℕ
index_for line ws = position (is_for line) ws

-- the lowest of so many ways that is empty
abbrev pub lowest_empty : ℕ → List Way → Option ℕ
lowest_empty ways ws = position is_empty (take ways ws)

-- a mask that has bit i where test i holds
abbrev pub mask_of : List Bool → ℕ
mask_of [] = 0
mask_of (b ∷ bs) = (if b then 1 else 0) + 2 * mask_of bs

-- the ways that are not reserved, as a mask
abbrev pub unreserved : List Way → ℕ
unreserved ws = mask_of (map (λ way. not (is_reserved way)) ws)

-- the ways once a way of a set holds something else
abbrev pub with_way : ℕ → ℕ → Way → Ways → Ways
with_way s w new ways = record ways { sets = set ways.sets s (set (row ways s) w new) }
