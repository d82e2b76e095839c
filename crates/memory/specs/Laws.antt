use Rattle.std.specs.Prelude.{ℕ, List, Option, Result}
use Rattle.memory.specs.Meaning.{Facts, Well, ReadMeans, WriteMeans, StepMeans}
use Rattle.memory.specs.declared.refusal.Refusal.{Refusal}
use Rattle.memory.specs.declared.replies.Answer.{Answer}

-- the laws of a memory, for whoever builds one memory from others: what is known of a state, and the moves of its calls
pub record Laws {S : Type 0} (known : S → Facts) (reads : S → ℕ → Result ℕ Refusal → S → Type 0) (writes : S → ℕ → ℕ → List ℕ → Result ℕ Refusal → S → Type 0) (steps : S → List ℕ → Option Answer → S → List ℕ → Type 0) : Type 0 where
  pub well : (s : S) → Well (known s)
  pub reading : (s t : S) (line : ℕ) (r : Result ℕ Refusal) → reads s line r t → ReadMeans (known s) line r (known t)
  pub writing : (s t : S) (line mask : ℕ) (new : List ℕ) (r : Result ℕ Refusal) → writes s line mask new r t → WriteMeans (known s) line mask new r (known t)
  pub stepping : (s t : S) (before after : List ℕ) (r : Option Answer) → steps s before r t after → StepMeans (known s) before r (known t) after
