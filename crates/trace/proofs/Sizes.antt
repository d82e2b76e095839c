-- how many bytes a record within its limits has at most
use Rattle.std.proofs.Common.{◌≡◌, ℕ, zero, suc, ◌+◌, ◌*◌, ◌/◌, ◌<◌, ◌≤◌, true, not, ◌&&◌, eqb, leb, List, [], ◌∷◌, length, Some, None, Option, arith}
use Rattle.std.proofs.lemmas.Bool.{and_parts, eqb-true, leb-true}
use Rattle.std.proofs.lemmas.Grind.{common_steps}
use Rattle.std.proofs.lemmas.List.{length-append}
use Rattle.std.specs.List.{flat_map}
use Rattle.line.specs.Counts.{is_count}
use Rattle.list.specs.Zeros.{all_zero}
use Rattle.memory.specs.Limits.{most_lines, most_bad_lines, longest_latency, longest_script}
use Rattle.memory.specs.declared.bad_line.BadLine.{BadLine}
use Rattle.trace.specs.declared.records.Level.{Level}
use Rattle.trace.specs.declared.records.Rule.{Rule}
use Rattle.trace.specs.declared.records.Rule.TheVariants.{Lru, Fifo}
use Rattle.trace.specs.declared.records.Bottom.{Bottom}
use Rattle.trace.specs.declared.records.Bottom.TheVariants.{Ordered, Scripted}
use Rattle.trace.specs.declared.records.Setup.{Setup}
use Rattle.trace.specs.Encode.{bottom_bytes, bad_line_bytes, level_bytes, levels_bytes, encode, bottom_in_limits, bad_line_in_limits, bad_lines_in_limits, level_in_limits, upper_in_limits, in_limits}
use Rattle.trace.specs.Items.{Item, setup, load, store, pass, note}
use Rattle.trace.specs.Kinds.{rule_number}
use Rattle.trace.specs.Limits.{highest_bad_line, highest_cause, longest_record}
use Rattle.trace.specs.Numbers.{groups, spelled, within}
use Rattle.trace.proofs.Laws.{setup_parts, side_small}
use Rattle.trace.proofs.NumberSpelled.{reach, groups_one}

-- so many groups after the first are enough for the numbers within their reach
groups_size : (j k n : ℕ) → n < reach j → length (groups k n) ≤ suc j
groups_size j zero n h = omega arith
groups_size zero (suc k) n h = rw (groups_one (suc k) n h) (omega arith)
groups_size (suc j) (suc k) n h = grind (arith, common_steps, groups_size j k (n / 128) (omega arith))

all_groups_size : (k n : ℕ) → length (groups k n) ≤ suc k
all_groups_size zero n = omega arith
all_groups_size (suc k) n = grind (arith, common_steps, all_groups_size k (n / 128))

one_byte : (n : ℕ) → n < 128 → length (spelled n) ≤ 1
one_byte n h = groups_size 0 9 n h

two_bytes : (n : ℕ) → n < 128 * 128 → length (spelled n) ≤ 2
two_bytes n h = groups_size 1 9 n (omega arith)

ten_bytes : (n : ℕ) → length (spelled n) ≤ 10
ten_bytes n = all_groups_size 9 n

up_to : (low high n : ℕ) → within low high n ≡ true → n ≤ high
up_to low high n h = leb-true n high (and_parts (leb low n) (leb n high) h).1

bottom_size : (b : Bottom) (script : List ℕ) → bottom_in_limits b script ≡ true → length (bottom_bytes b script) ≤ longest_script + 2
bottom_size (Ordered n) script h =
    let p = and_parts (within 1 longest_latency n) (eqb (length script) 0) h in
    let l = up_to 1 longest_latency n p.0 in
    grind (arith, length-append, one_byte 1, one_byte n (omega arith))
bottom_size (Scripted n) script h =
    let p = and_parts (within 1 longest_script n) (eqb (length script) n && not (all_zero script)) h in
    let l = up_to 1 longest_script n p.0 in
    let q = and_parts (eqb (length script) n) (not (all_zero script)) p.1 in
    let long : length script ≡ n = eqb-true (length script) n q.0 in
    grind (arith, length-append, one_byte 2, one_byte n (omega arith))

bad_line_size : (b : BadLine) → bad_line_in_limits b ≡ true → length (bad_line_bytes b) ≤ 4
bad_line_size b h =
    let p = and_parts (within 0 highest_bad_line b.line) (within 0 highest_cause b.cause) h in
    let l = up_to 0 highest_bad_line b.line p.0 in
    let c = up_to 0 highest_cause b.cause p.1 in
    grind (arith, length-append, two_bytes b.line (omega arith), two_bytes b.cause (omega arith))

bad_lines_size : (bad : List BadLine) → bad_lines_in_limits bad ≡ true → length (flat_map bad_line_bytes bad) ≤ 4 * length bad
bad_lines_size [] h = omega arith
bad_lines_size (b ∷ bad) h =
    let p = and_parts (bad_line_in_limits b) (bad_lines_in_limits bad) h in
    grind (arith, length-append, bad_line_size b p.0, bad_lines_size bad p.1)

rule_size : (r : Rule) → length (spelled (rule_number r)) ≤ 1
rule_size Lru = one_byte 1 (omega arith)
rule_size Fifo = one_byte 2 (omega arith)

side_size : (n : ℕ) → is_count n ≡ true → length (spelled n) ≤ 1
side_size n h = let l : n ≤ 8 = side_small n h in one_byte n (omega arith)

level_size : (l : Level) → level_in_limits l ≡ true → length (level_bytes l) ≤ 3
level_size l h =
    let p = and_parts (is_count l.sets) (is_count l.ways) h in
    grind (arith, length-append, side_size l.sets p.0, side_size l.ways p.1, rule_size l.rule)

levels_size : (lowest : Level) (upper : Option Level) → level_in_limits lowest ≡ true → upper_in_limits upper ≡ true → length (levels_bytes lowest upper) ≤ 7
levels_size lowest None h u = grind (arith, length-append, one_byte 1, level_size lowest h)
levels_size lowest (Some second) h u = grind (arith, length-append, one_byte 2, level_size lowest h, level_size second u)

setup_parts_size : (s : Setup) (script : List ℕ) (bad : List BadLine) → s.lines ≤ most_lines → bottom_in_limits s.bottom script ≡ true → s.bad_line_count ≤ most_bad_lines → length bad ≡ s.bad_line_count → bad_lines_in_limits bad ≡ true → level_in_limits s.lowest ≡ true → upper_in_limits s.upper ≡ true → length (encode (setup s script bad)) ≤ longest_record
setup_parts_size s script bad lines named few all bads lowest upper =
    grind (arith, length-append, two_bytes s.lines (omega arith), bottom_size s.bottom script named, one_byte s.bad_line_count (omega arith), bad_lines_size bad bads, levels_size s.lowest s.upper lowest upper)

setup_size : (s : Setup) (script : List ℕ) (bad : List BadLine) → in_limits (setup s script bad) ≡ true → length (encode (setup s script bad)) ≤ longest_record
setup_size s script bad h =
    let f = setup_parts s script bad h in
    let l = and_parts (level_in_limits s.lowest) (upper_in_limits s.upper) f.levels in
    setup_parts_size s script bad (up_to 1 most_lines s.lines f.lines) f.bottom (up_to 0 most_bad_lines s.bad_line_count f.count) (eqb-true (length bad) s.bad_line_count f.counted) f.bad_lines l.0 l.1

pub encode_size : (item : Item) → in_limits item ≡ true → length (encode item) ≤ longest_record
encode_size (setup s script bad) h = setup_size s script bad h
encode_size (load size address) h = grind (arith, length-append, ten_bytes)
encode_size (store size address value) h = grind (arith, length-append, ten_bytes)
encode_size (pass steps) h = grind (arith, ten_bytes)
encode_size (note bytes) h = grind (arith, common_steps, ten_bytes)
