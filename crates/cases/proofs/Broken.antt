-- why the promise of a port refuses the calls that break it
use Rattle.std.proofs.Common.{◌≡◌, ℕ, ◌+◌, ◌≤◌, false, true, Some, arith, lit≤, refl, sym}
use Rattle.cases.specs.Refused.{PromiseRefuses}
use Rattle.list.proofs.Entries.{none_some}
use Rattle.port.specs.declared.answer.Redeemed.TheVariants.{Value, Fault as Faulty}

clash : true ≡ false → ⊥
clash e = let z : ◌≡◌ {A = ℕ} 0 1 = cc in omega arith

some_alike : (m n : ℕ) → Some m ≡ Some n → m ≡ n
some_alike m n e = cc

values_alike : (m n : ℕ) → Some (Value m) ≡ Some (Value n) → m ≡ n
values_alike m n e = cc

fault_value : (n : ℕ) → Some (Faulty (record { level = 0; line = 1; cause = 9 })) ≡ Some (Value n) → ⊥
fault_value n e = let z : ◌≡◌ {A = ℕ} 0 1 = cc in omega arith

pub refuses : PromiseRefuses
refuses = record {
  busy = λ p. let q : 1 ≤ 0 = p.0.1 in omega arith;
  ration_left = λ p. let q : 22 ≡ 23 = p.0.0 in omega arith;
  room_left = λ p. let q : 21 ≡ 23 = p.0.0 in omega arith;
  unlawful = λ p. none_some 6 (sym p.0.0);
  later_check = λ p. let q : 7 ≡ 6 = p.0 in omega arith;
  skipped = λ p. let q : 3 ≡ 2 = p.0.1 in omega arith;
  again = λ p. let q : 1 ≡ 2 = p.0.1 in omega arith;
  fourth = λ p. none_some 22 (sym p.0.0);
  not_out = λ p. clash (sym p.0.0);
  come_before = λ p. clash p.0.1;
  late = λ p. clash (sym (p.1.in_time (lit≤ tt) 1 refl));
  late_before = λ p. clash (sym (p.2.1.in_time (lit≤ tt) 1 refl));
  not_come = λ p. none_some 25 (sym p.0.0);
  has_come = λ p. none_some 25 p.0;
  is_out = λ p. none_some 24 p.0;
  twice = λ p. none_some 24 (sym p.0.0);
  other_value = λ p. let q = values_alike 0 1 p.0.1 in omega arith;
  later_value = λ p. let q = values_alike 0 7 p.0.1 in omega arith;
  no_fault = λ p. fault_value 0 p.0.1;
  silent = λ p. none_some 1 p.0;
  youngest = λ p. let q = some_alike 2 1 p.0 in omega arith;
  more_left = λ p. let q : 3 + 1 ≡ 3 = p.0 in omega arith;
  fewer_out = λ p. let q : 0 ≡ 1 = p.0 in omega arith;
}
