-- what a clock owes: a request adds at most a latency, and each step with a request open lowers it
use Rattle.std.proofs.Common.{◌≡◌, ℕ, zero, suc, ◌+◌, ◌*◌, ◌<◌, ◌≤◌, Bool, true, false, cond, eqb, Some, None, refl, arith}
use Rattle.backing.proofs.Paces.{Falls, Paced}
use Rattle.std.proofs.lemmas.Bool.{eqb-false}
use Rattle.backing.specs.Clock.{clock_answers, counter_after, clock_owed, clock_pace, ClockSteps}
use Rattle.backing.specs.declared.clock.Clock.{Clock}

clock_pace_is_some : (c : Clock) → 1 ≤ clock_pace c
clock_pace_is_some c = let w = c.within in omega arith

-- one request more
latency_more : (latency n : ℕ) → latency * suc n ≡ latency * n + latency
latency_more latency n = grind arith

clock_owing : (c : Clock) (n : ℕ) → 1 ≤ clock_owed c (suc n)
clock_owing c n = let w = c.within in let m = latency_more c.latency n in omega arith

clock_raises : (c : Clock) (n : ℕ) → clock_owed c (suc n) ≤ clock_owed c n + clock_pace c
clock_raises c n = let m = latency_more c.latency n in omega arith

clock_lower : (c d : Clock) (n : ℕ) → d.latency ≡ c.latency → d.counter ≡ counter_after c n → Falls (clock_owed c) (clock_owed d) n (clock_answers c n)
clock_lower c d zero same counted = (rw (same, counted) (omega arith), λ h. absurd (omega arith))
clock_lower c d (suc n) same counted = go (eqb (c.counter + 1) c.latency) refl counted
  where
    go : (b : Bool) → eqb (c.counter + 1) c.latency ≡ b → d.counter ≡ cond b 0 (c.counter + 1) → Falls (clock_owed c) (clock_owed d) (suc n) (cond b (Some 0) None)
    go true t counted =
        let w = c.within in
        let m = latency_more c.latency n in
        (omega arith, λ k e. let z : k ≡ n = omega arith in rw (same, counted, z) (omega arith))
    go false t counted =
        let w = c.within in
        let m = latency_more c.latency n in
        let other = eqb-false (c.counter + 1) c.latency t in
        let below : c.counter + 1 < c.latency = omega arith in
        rw (same, counted) (omega arith, λ h. omega arith)

clock_falls : (c d : Clock) (n : ℕ) → ClockSteps c n d → (clock_pace d ≡ clock_pace c) × Falls (clock_owed c) (clock_owed d) n (clock_answers c n)
clock_falls c d n h = (h.0, clock_lower c d n h.0 h.1)

pub clock_paced : Paced clock_owed clock_pace clock_answers ClockSteps
clock_paced = record { paced = clock_pace_is_some; owing = clock_owing; raises = clock_raises; falls = clock_falls }
