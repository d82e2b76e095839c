use Rattle.std.proofs.Common.{◌≡◌, ◌+◌, ◌%◌, ◌<◌, length, refl, sym, ap, ◌∙◌, rules}
use Rattle.std.proofs.Math.Nat.{mod-eq_of_lt, mod_self}
use Rattle.backing.proofs.script.Script.step.Goals as goal
use Rattle.backing.proofs.script.Script.step.Goals.{then-next-len, else-next-len}

pub returns-clause-after : goal.returns-clause-after
returns-clause-after c =
    let n = length c.args.self.now.bytes.items in
    let i = c.args.self.now.index in
    let within : i < n = search rules in (
      refl,
      elim c.if-next-len.branch [
        | then-next-len w ↦ (let below : i + 1 < n = search rules in w.self-is ∙ sym (mod-eq_of_lt below))
        | else-next-len w ↦ (let last : i + 1 ≡ n = search rules in w.self-is ∙ sym (ap (λ k. k % n) last ∙ mod_self n))
      ],
    )
