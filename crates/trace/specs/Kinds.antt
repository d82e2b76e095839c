use Rattle.std.specs.Prelude.{ℕ, if◌then◌else◌, Some, None, Option, ◌==◌}
use Rattle.trace.specs.declared.records.Kind.{Kind}
use Rattle.trace.specs.declared.records.Kind.TheVariants.{Setup, Load, Store, Pass, Note}
use Rattle.trace.specs.declared.records.Level.{Level}
use Rattle.trace.specs.declared.records.Rule.{Rule}
use Rattle.trace.specs.declared.records.Rule.TheVariants.{Lru, Fifo}

-- the number of each kind of record
abbrev pub kind_number : Kind → ℕ
kind_number Setup = 0
kind_number Load = 1
kind_number Store = 2
kind_number Pass = 3
kind_number Note = 4

-- the kind that has a number, if one has
abbrev pub kind_of : ℕ → Option Kind
kind_of n =
    if n == kind_number Setup then Some Setup
    else if n == kind_number Load then Some Load
    else if n == kind_number Store then Some Store
    else if n == kind_number Pass then Some Pass
    else if n == kind_number Note then Some Note
    else None

-- the number of each replacement rule
abbrev pub rule_number : Rule → ℕ
rule_number Lru = 1
rule_number Fifo = 2

-- the number of a bottom memory that answers in order
abbrev pub ordered_number : ℕ
ordered_number = 1

-- the number of a bottom memory that answers by a script
abbrev pub scripted_number : ℕ
scripted_number = 2

-- how many levels there are above a memory: the lowest, and the upper one if there is one
abbrev pub level_count : Option Level → ℕ
level_count None = 1
level_count (Some upper) = 2
