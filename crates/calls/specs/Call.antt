use Rattle.std.specs.Prelude.{◌≡◌, ℕ, ◌⊎◌, List, [], codes, Result, Ok, IsOk}
use Rattle.std.specs.Result.{OkIff, result_unwrap_or}
use Rattle.anyhow.specs.declared.error.Error.{Error}
use Rattle.line.specs.Size.{line_size}
use Rattle.hex.specs.Hex.{decode_sized}
use Rattle.calls.specs.declared.call.Call.{Call}
use Rattle.calls.specs.declared.call.Call.TheVariants.{Read, Write, Step, Standing}
use Rattle.calls.specs.Words.{Words, word, HasForm, number_in, IsNumberIn}

-- the bytes of a line in hex
abbrev pub line_bytes : List ℕ → List ℕ
line_bytes text = result_unwrap_or (decode_sized text line_size) []

-- what the words of a call give: the call, exactly where its numbers are in range and its bytes are a line's; nothing else
-- is a call
pub record ReadsCall (words : Words) (r : Result Call Error) : Type 0 where
  pub read : HasForm words (codes "read") 2 → OkIff r (IsNumberIn 10 32 (word words 1)) (Read (number_in 10 (word words 1)))
  pub write : HasForm words (codes "write") 4 → OkIff r
      (IsNumberIn 10 32 (word words 1) × IsNumberIn 16 16 (word words 2) × IsOk (decode_sized (word words 3) line_size))
      (Write (number_in 10 (word words 1)) (number_in 16 (word words 2)) (line_bytes (word words 3)))
  pub step : HasForm words (codes "step") 1 → r ≡ Ok Step
  pub standing : HasForm words (codes "standing") 2 → OkIff r (IsNumberIn 10 32 (word words 1)) (Standing (number_in 10 (word words 1)))
  pub others : IsOk r → HasForm words (codes "read") 2 ⊎ (HasForm words (codes "write") 4
      ⊎ (HasForm words (codes "step") 1 ⊎ HasForm words (codes "standing") 2))
