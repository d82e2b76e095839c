use Rattle.std.proofs.Common.{◌≡◌, ◌≤◌, ◌+◌, ◌*◌, drop}
use Rattle.level_model.specs.Tables.{target_count}
use Rattle.level_model.proofs.tables.target_count.Given as goal

-- what was counted, and what is still to come
abbrev pub invariant-loop-register : goal.invariant-loop-register
invariant-loop-register l = record {
  sum : l.count + target_count (drop l.register-index l.registers) ≡ target_count l.registers;
  few : l.count ≤ 4 * l.register-index;
}
