-- a register that got one more target, among the others
use Rattle.std.proofs.Common.{◌≡◌, List, ap}
use Rattle.level_model.specs.Limits.{most_targets}
use Rattle.level_model.specs.Tables.{pushed, with_target}
use Rattle.level_model.specs.declared.registers.Register.{Register}
use Rattle.level_model.specs.declared.registers.Target.{Target}
use Rattle.level_model.specs.declared.tables.Tables.{Tables}

-- what is pushed on the targets of a register
pub more_targets : (r : Register) (target : Target) (xs : List Target) → xs ≡ pushed most_targets r.targets.items target → ◌≡◌ {A = Register} (record r { targets = record { items = xs } }) (with_target target r)
more_targets r target xs e = ap (λ (ys : List Target). record r { targets = record { items = ys } }) e

-- tables whose registers become others
pub with_registers : (t : Tables) (xs ys : List Register) → xs ≡ ys → ◌≡◌ {A = Tables} (record t { registers = record { items = xs } }) (record t { registers = record { items = ys } })
with_registers t xs ys e = ap (λ (zs : List Register). record t { registers = record { items = zs } }) e
