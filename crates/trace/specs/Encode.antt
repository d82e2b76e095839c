use Rattle.std.specs.Prelude.{ℕ, ◌+◌, ◌≤◌, Bool, true, false, not, ◌&&◌, List, ◌∷◌, ◌++◌, length, Some, None, Option, ◌==◌}
use Rattle.std.specs.List.{flat_map, list_all}
use Rattle.trace.specs.declared.records.Kind.TheVariants.{Setup, Load, Store, Pass, Note}
use Rattle.trace.specs.declared.records.Level.{Level}
use Rattle.trace.specs.declared.records.Bottom.{Bottom}
use Rattle.trace.specs.declared.records.Bottom.TheVariants.{Ordered, Scripted}
use Rattle.memory.specs.declared.bad_line.BadLine.{BadLine}
use Rattle.arrayvec.specs.ArrayVec.{ArrayVec, array_vec_len}
use Rattle.line.specs.Counts.{is_count}
use Rattle.memory.specs.Limits.{most_lines, most_bad_lines, longest_latency, longest_script}
use Rattle.trace.specs.Limits.{highest_bad_line, highest_cause, largest_size, highest_address, highest_number, most_steps, longest_note, longest_record}
use Rattle.trace.specs.Items.{Item, setup, load, store, pass, note}
use Rattle.trace.specs.Kinds.{kind_number, rule_number, ordered_number, scripted_number, level_count}
use Rattle.trace.specs.Numbers.{spelled, within}
use Rattle.trace.specs.Decode.{printable}
use Rattle.list.specs.Zeros.{all_zero}

-- the memory at the bottom: its number, then its latency, or the length of its script and the script
abbrev pub bottom_bytes : Bottom → List ℕ → List ℕ
bottom_bytes (Ordered latency) script = spelled ordered_number ++ spelled latency
bottom_bytes (Scripted n) script = spelled scripted_number ++ (spelled n ++ script)

-- a bad line and its cause
abbrev pub bad_line_bytes : BadLine → List ℕ
bad_line_bytes b = spelled b.line ++ spelled b.cause

-- the sets, the ways and the rule of a level
abbrev pub level_bytes : Level → List ℕ
level_bytes l = spelled l.sets ++ (spelled l.ways ++ spelled (rule_number l.rule))

-- each level, lowest first
abbrev pub each_level_bytes : Level → Option Level → List ℕ
each_level_bytes lowest None = level_bytes lowest
each_level_bytes lowest (Some second) = level_bytes lowest ++ level_bytes second

-- the count of levels, and each of them
abbrev pub levels_bytes : Level → Option Level → List ℕ
levels_bytes lowest upper = spelled (level_count upper) ++ each_level_bytes lowest upper

-- the bytes of a record: its kind byte and its fields
abbrev pub encode : Item → List ℕ
encode (setup s script bad) = kind_number Setup ∷ (spelled s.lines ++ (bottom_bytes s.bottom script ++ (spelled s.bad_line_count ++ (flat_map bad_line_bytes bad ++ levels_bytes s.lowest s.upper))))
encode (load size address) = kind_number Load ∷ (spelled size ++ spelled address)
encode (store size address value) = kind_number Store ∷ (spelled size ++ (spelled address ++ spelled value))
encode (pass steps) = kind_number Pass ∷ spelled steps
encode (note bytes) = kind_number Note ∷ (spelled (length bytes) ++ bytes)

-- whether a setup's memory is one that a trace can name, with its script
abbrev pub bottom_in_limits : Bottom → List ℕ → Bool
bottom_in_limits (Ordered latency) script = within 1 longest_latency latency && length script == 0
bottom_in_limits (Scripted n) script = within 1 longest_script n && (length script == n && not (all_zero script))

-- whether a bad line and its cause are within their limits
abbrev pub bad_line_in_limits : BadLine → Bool
bad_line_in_limits b = within 0 highest_bad_line b.line && within 0 highest_cause b.cause

-- whether each bad line is
abbrev pub bad_lines_in_limits : List BadLine → Bool
bad_lines_in_limits bad = list_all bad_line_in_limits bad

-- whether the sets and ways of a level are some that a geometry has
abbrev pub level_in_limits : Level → Bool
level_in_limits l = is_count l.sets && is_count l.ways

-- whether a second level, if there is one, is within its limits
abbrev pub upper_in_limits : Option Level → Bool
upper_in_limits None = true
upper_in_limits (Some l) = level_in_limits l

-- whether every field of a record is within its limits
abbrev pub in_limits : Item → Bool
in_limits (setup s script bad) = within 1 most_lines s.lines && (bottom_in_limits s.bottom script && (within 0 most_bad_lines s.bad_line_count && (length bad == s.bad_line_count && (bad_lines_in_limits bad && (level_in_limits s.lowest && upper_in_limits s.upper)))))
in_limits (load size address) = within 0 largest_size size && within 0 highest_address address
in_limits (store size address value) = within 0 largest_size size && (within 0 highest_address address && within 0 highest_number value)
in_limits (pass steps) = within 1 most_steps steps
in_limits (note bytes) = within 0 longest_note (length bytes) && list_all printable bytes

-- whether a record is a setup
abbrev pub is_setup : Item → Bool
is_setup (setup s script bad) = true
is_setup (load size address) = false
is_setup (store size address value) = false
is_setup (pass steps) = false
is_setup (note bytes) = false

-- whether more bytes fit behind those of a record that is being put together
abbrev pub Fits : ArrayVec ℕ → List ℕ → Type 0
Fits held more = array_vec_len held + length more ≤ longest_record
