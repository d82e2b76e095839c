use Rattle.std.proofs.Common.{◌≡◌, sym, arith, rules}
use Rattle.playing.proofs.Start.{first_setup}
use Rattle.port.proofs.Lists.{true_false}
use Rattle.trace.specs.Items.{load, store, pass, note}
use Rattle.trace.specs.Reading.{reading, gave}
use Rattle.playing.proofs.playing.first_setup.Goals as goal

pub returns-in-Ok-Some-Load : goal.returns-in-Ok-Some-Load
returns-in-Ok-Some-Load c =
    let w = c.in-Ok-Some-Load in
    let e : reading c.args.trace.now 0 ≡ gave (load w.field-0-0-0 w.field-0-0-1) c.next.new.self.offset = search rules in
    absurd (true_false (sym (first_setup c.args.trace.now (λ k. omega (arith, c.type_inv.trace k)) _ _ e)))

pub returns-in-Ok-Some-Store : goal.returns-in-Ok-Some-Store
returns-in-Ok-Some-Store c =
    let w = c.in-Ok-Some-Store in
    let e : reading c.args.trace.now 0 ≡ gave (store w.field-0-0-0 w.field-0-0-1 w.field-0-0-2) c.next.new.self.offset = search rules in
    absurd (true_false (sym (first_setup c.args.trace.now (λ k. omega (arith, c.type_inv.trace k)) _ _ e)))

pub returns-in-Ok-Some-Pass : goal.returns-in-Ok-Some-Pass
returns-in-Ok-Some-Pass c =
    let w = c.in-Ok-Some-Pass in
    let e : reading c.args.trace.now 0 ≡ gave (pass w.field-0-0-0) c.next.new.self.offset = search rules in
    absurd (true_false (sym (first_setup c.args.trace.now (λ k. omega (arith, c.type_inv.trace k)) _ _ e)))

pub returns-in-Ok-Some-Note : goal.returns-in-Ok-Some-Note
returns-in-Ok-Some-Note c =
    let w = c.in-Ok-Some-Note in
    let e : reading c.args.trace.now 0 ≡ gave (note w.field-0-0-0.now) c.next.new.self.offset = search rules in
    absurd (true_false (sym (first_setup c.args.trace.now (λ k. omega (arith, c.type_inv.trace k)) _ _ e)))
