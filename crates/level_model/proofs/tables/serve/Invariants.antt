use Rattle.std.proofs.Common.{◌≡◌, drop}
use Rattle.level_model.specs.Limits.{most_open}
use Rattle.level_model.specs.Registers.{bytes_after, condition_after, dues}
use Rattle.level_model.specs.Steps.{pushed_all}
use Rattle.level_model.proofs.tables.serve.Given as goal

-- the targets that are left, from where the loop stands, come to what all targets come to
abbrev pub invariant-loop-target : goal.invariant-loop-target
invariant-loop-target l = record {
  ready : pushed_all most_open l.ready.items (dues l.fault l.bytes (drop l.target-index l.targets)) ≡ pushed_all most_open l.initial.ready.items (dues l.fault l.initial.bytes l.targets);
  bytes : bytes_after l.fault l.bytes (drop l.target-index l.targets) ≡ bytes_after l.fault l.initial.bytes l.targets;
  condition : condition_after l.condition (drop l.target-index l.targets) ≡ condition_after l.initial.condition l.targets;
}
