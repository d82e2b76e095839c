-- bad lines that are read one by one into a buffer
use Rattle.std.proofs.Common.{◌≡◌, ℕ, suc, ◌+◌, ◌-◌, ◌<◌, List, [], ◌∷◌, ◌++◌, length, take, set, sym, refl, ap, ◌∙◌, append_assoc, arith}
use Rattle.std.proofs.lemmas.List.{take_more_set}
use Rattle.memory.specs.declared.bad_line.BadLine.{BadLine}
use Rattle.trace.specs.declared.refusal.Refusal.{Refusal}
use Rattle.trace.specs.Parsed.{Parsed, Took, Refuses, and_then}
use Rattle.trace.specs.Decode.{bad_line, bad_lines}

shift : {X : Type 0} (p : Parsed (List X)) (front : List X) (x : X) → and_then p (λ more r. Took ((front ++ (x ∷ [])) ++ more) r) ≡ and_then (and_then p (λ more r. Took (x ∷ more) r)) (λ more r. Took (front ++ more) r)
shift (Took more r) front x = ap (λ l. Took l r) (append_assoc front (x ∷ []) more)
shift (Refuses q) front x = refl

-- what is still to be read behind those in the buffer
abbrev pub Left : ℕ → List ℕ → List BadLine → Parsed (List BadLine)
Left n bs front = and_then (bad_lines n bs) (λ more rest. Took (front ++ more) rest)

module _ (n i : ℕ) (bs : List ℕ) (filled : List BadLine) (l : i < n) where
  next : n - i ≡ suc (n - (i + 1))
  next = omega arith

  pub left_refused : (r : Refusal) → bad_line bs ≡ Refuses r → Left (n - i) bs (take i filled) ≡ Refuses r
  left_refused r e = ap (λ k. Left k bs (take i filled)) next ∙ ap (λ p. and_then (and_then p (λ b rest. and_then (bad_lines (n - (i + 1)) rest) (λ more rest. Took (b ∷ more) rest))) (λ more rest. Took (take i filled ++ more) rest)) e

  pub left_more : (b : BadLine) (rest : List ℕ) → i < length filled → bad_line bs ≡ Took b rest → Left (n - (i + 1)) rest (take (i + 1) (set filled i b)) ≡ Left (n - i) bs (take i filled)
  left_more b rest h e =
      ap (Left (n - (i + 1)) rest) (take_more_set filled i b h)
      ∙ shift (bad_lines (n - (i + 1)) rest) (take i filled) b
      ∙ sym (ap (λ k. Left k bs (take i filled)) next ∙ ap (λ p. and_then (and_then p (λ b rest. and_then (bad_lines (n - (i + 1)) rest) (λ more rest. Took (b ∷ more) rest))) (λ more rest. Took (take i filled ++ more) rest)) e)
