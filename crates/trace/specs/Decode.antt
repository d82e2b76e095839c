use Rattle.std.specs.Prelude.{ℕ, zero, suc, Bool, true, false, if◌then◌else◌, List, [], ◌∷◌, length, take, drop, Some, None, Option, ◌==◌, nat_le}
use Rattle.std.specs.List.{list_all}
use Rattle.line.specs.Counts.{is_count}
use Rattle.list.specs.Zeros.{all_zero}
use Rattle.memory.specs.Limits.{most_lines, most_bad_lines, longest_latency, longest_script}
use Rattle.memory.specs.declared.bad_line.BadLine.{BadLine}
use Rattle.trace.specs.declared.refusal.Refusal.TheVariants.{Truncated, NoKind, Limit, Misplaced}
use Rattle.trace.specs.declared.records.Kind.{Kind}
use Rattle.trace.specs.declared.records.Kind.TheVariants.{Setup, Load, Store, Pass, Note}
use Rattle.trace.specs.declared.records.Rule.{Rule}
use Rattle.trace.specs.declared.records.Rule.TheVariants.{Lru, Fifo}
use Rattle.trace.specs.declared.records.Level.{Level}
use Rattle.trace.specs.declared.records.Bottom.{Bottom}
use Rattle.trace.specs.declared.records.Bottom.TheVariants.{Ordered, Scripted}
use Rattle.trace.specs.Items.{Item, setup, load, store, pass, note}
use Rattle.trace.specs.Kinds.{kind_number, kind_of, rule_number, ordered_number, scripted_number, level_count}
use Rattle.trace.specs.Limits.{most_levels, highest_bad_line, highest_cause, largest_size, highest_address, most_steps, longest_note, first_printable, last_printable}
use Rattle.trace.specs.Numbers.{number, number_within, within}
use Rattle.trace.specs.Parsed.{Parsed, Took, Refuses, and_then}

-- so many bytes as they stand
abbrev pub plain : ℕ → List ℕ → Parsed (List ℕ)
plain n bs = if nat_le n (length bs) then Took (take n bs) (drop n bs) else Refuses Truncated

-- so many bytes, not all of them 0
abbrev pub script : ℕ → List ℕ → Parsed (List ℕ)
script n bs = and_then (plain n bs) (λ bytes rest. if all_zero bytes then Refuses Limit else Took bytes rest)

-- a memory that answers in order: its latency
abbrev pub ordered : List ℕ → Parsed (Bottom × List ℕ)
ordered bs = and_then (number_within 1 longest_latency bs) (λ latency rest. Took (Ordered latency, []) rest)

-- a memory that answers by a script: the script's length and the script
abbrev pub scripted : List ℕ → Parsed (Bottom × List ℕ)
scripted bs =
    and_then (number_within 1 longest_script bs) (λ n rest.
    and_then (script n rest) (λ bytes rest. Took (Scripted n, bytes) rest))

-- the memory at the bottom, by its number
abbrev pub bottom : List ℕ → Parsed (Bottom × List ℕ)
bottom bs = and_then (number_within ordered_number scripted_number bs) (λ n rest. if n == ordered_number then ordered rest else scripted rest)

-- a bad line with its cause
abbrev pub bad_line : List ℕ → Parsed BadLine
bad_line bs =
    and_then (number_within 0 highest_bad_line bs) (λ line rest.
    and_then (number_within 0 highest_cause rest) (λ cause rest. Took (record { line = line; cause = cause }) rest))

-- so many bad lines
abbrev pub bad_lines : ℕ → List ℕ → Parsed (List BadLine)
bad_lines zero bs = Took [] bs
bad_lines (suc k) bs = and_then (bad_line bs) (λ b rest. and_then (bad_lines k rest) (λ more rest. Took (b ∷ more) rest))

-- a number of sets or of ways
abbrev pub side : List ℕ → Parsed ℕ
side bs = and_then (number bs) (λ n rest. if is_count n then Took n rest else Refuses Limit)

-- the replacement rule that a number within its limits stands for
abbrev pub rule_of : ℕ → Rule
rule_of n = if n == rule_number Lru then Lru else Fifo

-- a replacement rule, read
abbrev pub rule : List ℕ → Parsed Rule
rule bs = and_then (number_within (rule_number Lru) (rule_number Fifo) bs) (λ n rest. Took (rule_of n) rest)

-- a cache level: its sets, its ways and its rule
abbrev pub level : List ℕ → Parsed Level
level bs =
    and_then (side bs) (λ sets rest.
    and_then (side rest) (λ ways rest.
    and_then (rule rest) (λ r rest. Took (record { sets = sets; ways = ways; rule = r }) rest)))

-- the second level, if a count of levels within its limits tells of one
abbrev pub upper : ℕ → List ℕ → Parsed (Option Level)
upper count bs = if count == level_count None then Took None bs else and_then (level bs) (λ l rest. Took (Some l) rest)

-- one or two levels, the lowest first
abbrev pub levels : List ℕ → Parsed (Level × Option Level)
levels bs =
    and_then (number_within (level_count None) most_levels bs) (λ count rest.
    and_then (level rest) (λ lowest rest.
    and_then (upper count rest) (λ second rest. Took (lowest, second) rest)))

-- a setup out of its fields
abbrev pub setup_of : ℕ → Bottom × List ℕ → ℕ → List BadLine → Level × Option Level → Item
setup_of lines b count bad l = setup (record { lines = lines; bottom = b.0; bad_line_count = count; lowest = l.0; upper = l.1 }) b.1 bad

-- the fields of a setup: lines, bottom memory, bad lines and levels
abbrev pub setup_fields : List ℕ → Parsed Item
setup_fields bs =
    and_then (number_within 1 most_lines bs) (λ lines rest.
    and_then (bottom rest) (λ b rest.
    and_then (number_within 0 most_bad_lines rest) (λ count rest.
    and_then (bad_lines count rest) (λ bad rest.
    and_then (levels rest) (λ l rest. Took (setup_of lines b count bad l) rest)))))

-- the fields of a load: size and address
abbrev pub load_fields : List ℕ → Parsed Item
load_fields bs =
    and_then (number_within 0 largest_size bs) (λ size rest.
    and_then (number_within 0 highest_address rest) (λ address rest. Took (load size address) rest))

-- the fields of a store: size, address and value
abbrev pub store_fields : List ℕ → Parsed Item
store_fields bs =
    and_then (number_within 0 largest_size bs) (λ size rest.
    and_then (number_within 0 highest_address rest) (λ address rest.
    and_then (number rest) (λ value rest. Took (store size address value) rest)))

-- the field of a pass: its steps
abbrev pub pass_fields : List ℕ → Parsed Item
pass_fields bs = and_then (number_within 1 most_steps bs) (λ steps rest. Took (pass steps) rest)

-- a byte that a note may hold
abbrev pub printable : ℕ → Bool
printable = within first_printable last_printable

-- so many bytes that a note may hold
abbrev pub text : ℕ → List ℕ → Parsed (List ℕ)
text n bs = and_then (plain n bs) (λ bytes rest. if list_all printable bytes then Took bytes rest else Refuses Limit)

-- the fields of a note: length and text
abbrev pub note_fields : List ℕ → Parsed Item
note_fields bs = and_then (number_within 0 longest_note bs) (λ n rest. and_then (text n rest) (λ bytes rest. Took (note bytes) rest))

-- the fields of a record of a kind
abbrev pub fields : Kind → List ℕ → Parsed Item
fields Setup bs = setup_fields bs
fields Load bs = load_fields bs
fields Store bs = store_fields bs
fields Pass bs = pass_fields bs
fields Note bs = note_fields bs

-- the record of the kind that was named, where a setup is due exactly if it is the first
abbrev pub record_of : Bool → Option Kind → List ℕ → Parsed Item
record_of first None bs = Refuses NoKind
record_of true (Some kind) bs = if kind_number kind == kind_number Setup then fields kind bs else Refuses Misplaced
record_of false (Some kind) bs = if kind_number kind == kind_number Setup then Refuses Misplaced else fields kind bs

-- the record at the front of some bytes: its kind byte and its fields; with no bytes it is cut off
abbrev pub decode : Bool → List ℕ → Parsed Item
decode first [] = Refuses Truncated
decode first (byte ∷ bs) = record_of first (kind_of byte) bs
