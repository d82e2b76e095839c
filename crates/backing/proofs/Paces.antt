-- what is owed while requests are open, by whatever says when they are answered: a timer
use Rattle.std.proofs.Common.{◌≡◌, ℕ, suc, ◌+◌, ◌<◌, ◌≤◌, Some, None, Option}

-- what is owed, as a function of how many requests are open, before a step and after it: while so many are open the step answers the one at an index, or none
abbrev pub Falls : (ℕ → ℕ) → (ℕ → ℕ) → ℕ → Option ℕ → Type 0
Falls owed owed_then n None = (owed_then n ≤ owed n) × (1 ≤ n → owed_then n < owed n)
Falls owed owed_then n (Some i) = (i < n) × ((m : ℕ) → suc m ≡ n → owed_then m < owed n)

-- a kind of timer by which a memory ends its requests: what is owed while so many are open, the pace, the index that a step answers, and the steps
pub record Paced {Timer : Type 0} (owed : Timer → ℕ → ℕ) (pace : Timer → ℕ) (answers : Timer → ℕ → Option ℕ) (Steps : Timer → ℕ → Timer → Type 0) : Type 0 where
  pub paced : (c : Timer) → 1 ≤ pace c
  -- while a request is open a step is owed
  pub owing : (c : Timer) (n : ℕ) → 1 ≤ owed c (suc n)
  -- a request adds the pace at most
  pub raises : (c : Timer) (n : ℕ) → owed c (suc n) ≤ owed c n + pace c
  -- a step keeps the pace, and while a request is open it lowers what is owed
  pub falls : (c d : Timer) (n : ℕ) → Steps c n d → (pace d ≡ pace c) × Falls (owed c) (owed d) n (answers c n)
