use Rattle.std.specs.Prelude.{◌≡◌, ℕ, List, length, Option, Result}
use Rattle.backing.specs.Backing.{image_of, open_requests, Begins, Reads, Writes, AnswersAt}
use Rattle.backing.specs.Facts.{facts_on}
use Rattle.backing.specs.Script.{script_bytes, next_index_of, counted_script, script_answers, script_owed, script_pace, ScriptSteps}
use Rattle.backing.specs.declared.image.Image.{Image}
use Rattle.bottom.specs.declared.scripted.Scripted.{Scripted}
use Rattle.memory.specs.Meaning.{Facts}
use Rattle.memory.specs.declared.bad_line.BadLine.{BadLine}
use Rattle.memory.specs.declared.refusal.Refusal.{Refusal}
use Rattle.memory.specs.declared.replies.Answer.{Answer}

-- the most requests that are open
abbrev pub scripted_limit : ℕ
scripted_limit = 16

-- the image that it stands on
abbrev pub scripted_image : Scripted → Image
scripted_image s = image_of s.backing

-- how many requests are open
abbrev pub scripted_count : Scripted → ℕ
scripted_count s = length (open_requests s.backing)

-- what there is to know of it
abbrev pub scripted_facts : Scripted → Facts
scripted_facts s = facts_on s.backing (script_owed s.script (scripted_count s)) (script_pace s.script)

-- a new memory: no request is open, and of the script that counts the first byte is next
abbrev pub ScriptedBegins : ℕ → List BadLine → List ℕ → Scripted → Type 0
ScriptedBegins level bad_lines script s = Begins level bad_lines s.backing × (script_bytes s.script ≡ counted_script script) × (next_index_of s.script ≡ 0)

-- a read: the memory is busy exactly where as many requests are open as can be; the script is left alone
abbrev pub ScriptedReads : Scripted → ℕ → Result ℕ Refusal → Scripted → Type 0
ScriptedReads s line r t = Reads scripted_limit s.backing line r t.backing × (t.script ≡ s.script)

-- a write: it is busy at the same times, and the script is left alone
abbrev pub ScriptedWrites : Scripted → ℕ → ℕ → List ℕ → Result ℕ Refusal → Scripted → Type 0
ScriptedWrites s line mask new r t = Writes scripted_limit s.backing line mask new r t.backing × (t.script ≡ s.script)

-- a step answers the request that the next byte of the script says, and that byte is used
abbrev pub ScriptedSteps : Scripted → List ℕ → Option Answer → Scripted → List ℕ → Type 0
ScriptedSteps s before r t after =
    AnswersAt (script_answers s.script (scripted_count s)) s.backing before r t.backing after × ScriptSteps s.script t.script
