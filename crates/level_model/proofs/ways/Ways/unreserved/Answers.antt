use Rattle.std.proofs.Common.{◌≡◌, ◌∷◌, length, ◌≤◌, subst, cond, not, rules}
use Rattle.level_model.specs.Ways.{row, is_reserved}
use Rattle.level_model.proofs.MaskBits.{seen_more}
use Rattle.level_model.proofs.ways.Ways.unreserved.Goals as goal

pub loop-way-preserved : goal.loop-way-preserved
loop-way-preserved c =
    let i = c.loop-way.invariant in
    let way = c.in-Some.way.now in
    let few : length (row c.args.self.now c.args.set) ≤ 8 = subst (λ xs. length xs ≤ 8) c.row.ensures.value c.row.ensures.few in
    let bit : c.from.result ≡ cond (not (is_reserved way)) 1 0 = search rules in
    let more = seen_more c.loop-way.way-iterator.iter.rest.now c.next.new.self.iter.rest.now i.0 (row c.args.self.now c.args.set) way c.loop-way.mask c.from.result c.in-Some.ensures.steps i.1 i.2 few bit in
    (way ∷ i.0, more.0, more.1)
