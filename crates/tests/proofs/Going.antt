-- a memory after a number of steps
use Rattle.std.proofs.Common.{◌≡◌, ℕ, ◌+◌, ◌≤◌}
use Rattle.memory.specs.Meaning.{Facts, Open, Fixed, ContentsStay}

-- what is known of t, which is s after so many steps
pub record Going (s : Facts) (made : ℕ) (t : Facts) : Type 0 where
  pub fixed : Fixed s t
  pub contents_stay : ContentsStay s t
  pub due_stays : (u : ℕ) → Open t u → t.due u ≡ s.due u
  pub not_raised : t.owed ≤ s.owed
  pub paid : (u : ℕ) → Open t u → t.owed + made ≤ s.owed
