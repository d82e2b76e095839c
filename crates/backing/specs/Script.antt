use Rattle.std.specs.Prelude.{◌≡◌, ℕ, zero, suc, ◌+◌, ◌*◌, ◌%◌, if◌then◌else◌, List, [], ◌∷◌, ◌++◌, length, take, drop, Some, None, Option, nat_lt, slice_index}
use Rattle.list.specs.Zeros.{all_zero}
use Rattle.memory.specs.Limits.{longest_script}
use Rattle.backing.specs.declared.script.Script.{Script}

-- the bytes of a script
abbrev pub script_bytes : Script → List ℕ
script_bytes s = s.bytes.items

-- the index of the byte that is used in the next step
abbrev pub next_index_of : Script → ℕ
next_index_of s = s.index

-- the script that counts: the first bytes, as many as the longest has, or a single 1 where there are none, or none but zeros
abbrev pub counted_script : List ℕ → List ℕ
counted_script bytes = if all_zero (take longest_script bytes) then 1 ∷ [] else take longest_script bytes

-- the byte that is used in the next step
abbrev pub next_byte : Script → ℕ
next_byte s = slice_index s.bytes.items s.index

-- the index of the byte used after it: the next one, and the first after the last
abbrev pub index_after : Script → ℕ
index_after s = (s.index + 1) % length s.bytes.items

-- a step of the script
abbrev pub ScriptSteps : Script → Script → Type 0
ScriptSteps s t = (t.bytes.items ≡ s.bytes.items) × (t.index ≡ index_after s)

-- the index of the open request that a byte answers, oldest first, while so many are open: 0 answers none, and k the k-th, which has index k - 1, or the youngest where fewer are open
abbrev pub answered_by : ℕ → ℕ → Option ℕ
answered_by zero n = None
answered_by (suc k) zero = None
answered_by (suc k) (suc n) = if nat_lt k (suc n) then Some k else Some n

-- the index of the open request that a step answers
abbrev pub script_answers : Script → ℕ → Option ℕ
script_answers s n = answered_by (next_byte s) n

-- the bytes in the order in which they are used next
abbrev pub ahead : Script → List ℕ
ahead s = drop s.index s.bytes.items ++ take s.index s.bytes.items

-- the steps up to and with the first byte that is not 0
abbrev pub steps_to_answer : List ℕ → ℕ
steps_to_answer [] = 0
steps_to_answer (zero ∷ bytes) = suc (steps_to_answer bytes)
steps_to_answer (suc k ∷ bytes) = 1

-- the steps that are owed while so many requests are open: up to the next answer, and then a whole script for each but the first answered
abbrev pub script_owed : Script → ℕ → ℕ
script_owed s zero = 0
script_owed s (suc n) = steps_to_answer (ahead s) + n * length s.bytes.items

-- the most that a request adds to them
abbrev pub script_pace : Script → ℕ
script_pace s = length s.bytes.items
