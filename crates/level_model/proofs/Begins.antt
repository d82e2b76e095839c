-- a level that holds nothing
use Rattle.std.proofs.Common.{◌≡◌, refl, sym, ap, subst, ℕ, suc, zero, rules, ◌<◌, ◌%◌, List, [], length, replicate, Some, None, arith, slice_index_or}
use Rattle.memory.specs.Meaning.{Facts, Idle}
use Rattle.replacement.specs.declared.geometry.Geometry.{Geometry}
use Rattle.level_model.specs.Facts.{way_for, level_facts, Covers, way_bytes}
use Rattle.level_model.specs.Kept.{Kept, LineKept, ways_for}
use Rattle.level_model.specs.Limits.{most_ways}
use Rattle.level_model.specs.Tables.{empty_tables}
use Rattle.level_model.specs.Ways.{empty_ways, row, way_at}
use Rattle.level_model.specs.declared.ways.Way.{Way}
use Rattle.level_model.specs.declared.ways.Way.TheVariants.{Empty}

-- a set that holds nothing
abbrev empty_row : List Way
empty_row = replicate most_ways Empty

-- what holds of such a set, and of no ways at all, holds of every set of such sets
on_rows : (P : List Way → Type 0) → P [] → P empty_row → (n k : ℕ) → P (slice_index_or (replicate n empty_row) k [])
on_rows P none row zero k = none
on_rows P none row (suc n) zero = row
on_rows P none row (suc n) (suc k) = on_rows P none row n k

-- each of so many sets has all its ways
all_rows : (n k : ℕ) → k < n → length (slice_index_or (replicate n empty_row) k []) ≡ most_ways
all_rows zero k below = absurd (let z = below in omega (arith, z))
all_rows (suc n) zero below = refl
all_rows (suc n) (suc k) below = all_rows n k (let z = below in omega (arith, z))

-- a line has no way where none is filled or reserved
no_way : (line k : ℕ) → way_for line (row empty_ways k) ≡ Empty
no_way line k = on_rows (λ ws. way_for line ws ≡ Empty) refl refl 8 k

no_ways : (line k : ℕ) → ways_for line (row empty_ways k) ≡ 0
no_ways line k = on_rows (λ ws. ways_for line ws ≡ 0) refl refl 8 k

empty_at : (n way : ℕ) → slice_index_or (replicate n Empty) way Empty ≡ Empty
empty_at zero way = refl
empty_at (suc n) zero = refl
empty_at (suc n) (suc way) = empty_at n way

none_at : (set way : ℕ) → way_at empty_ways set way ≡ Empty
none_at set way = on_rows (λ ws. slice_index_or ws way Empty ≡ Empty) refl (empty_at 8 way) 8 set

-- what holds of a level's tables holds of empty ones
pub kept_empty : (f : Facts) (g : Geometry) → Kept f g empty_tables
kept_empty f g = record {
  lines_kept = λ line. subst (λ w. LineKept f line w None None) (sym (no_way line (line % g.sets))) (record { way_kept = tt; queued_kept = tt; register_kept = tt; reserved = refl });
  own_way = λ set line. let none = no_ways line set in omega (arith, none);
  registers_differ = tt;
  queue_differs = tt;
  sent_differ = λ line other ticket e e'. absurd (let z : None ≡ Some ticket = e in search rules);
  tickets_differ = tt;
  few = omega arith;
  all_sets = refl;
  all_ways = λ set within. all_rows 8 set within;
  beyond = λ set way past. none_at set way;
}

-- a level that holds nothing has what the memory below has
pub covers_empty : (f : Facts) (g : Geometry) → Covers f (level_facts f g empty_tables)
covers_empty f g = record { lines = refl; contents = λ line. ap (λ w. way_bytes w (f.contents line)) (no_way line (line % g.sets)); bad = λ line. refl; pace = refl }

-- and nothing is open on it where nothing is below
pub idle_empty : (f : Facts) (g : Geometry) → Idle f → Idle (level_facts f g empty_tables)
idle_empty f g idle = record { none_open = λ ticket. refl; none_owed = let z = idle.none_owed in omega (arith, z) }
