use Rattle.std.specs.Prelude.{ℕ, if◌then◌else◌, ◌&&◌, Ok, Err, Result}
use Rattle.replacement.specs.declared.geometry.Geometry.{Geometry}
use Rattle.replacement.specs.declared.refusal.Refusal.{Refusal}
use Rattle.replacement.specs.declared.refusal.Refusal.TheVariants.{Counts}
use Rattle.line.specs.Counts.{is_count}

-- the number of a refusal
abbrev pub refusal_code : Refusal → ℕ
refusal_code Counts = 10

-- the sets and ways of a geometry that was made, or why none was
abbrev pub shape : Result Geometry Refusal → Result (ℕ × ℕ) Refusal
shape (Ok g) = Ok (g.sets, g.ways)
shape (Err r) = Err r

-- what the making of a geometry answers
abbrev pub geometry_answer : ℕ → ℕ → Result (ℕ × ℕ) Refusal
geometry_answer sets ways = if is_count sets && is_count ways then Ok (sets, ways) else Err Counts
