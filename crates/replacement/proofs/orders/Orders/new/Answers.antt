use Rattle.std.proofs.Common.{◌≤◌, [], take, ap, ◌∙◌, arith}
use Rattle.replacement.proofs.Once.{count_small, starts}
use Rattle.replacement.proofs.orders.Orders.new.Goals as goal
use Rattle.replacement.specs.Orders.{times}
use Rattle.std.proofs.lemmas.List.{get_or-replicate}
use Rattle.std.specs.List.{range_with_len}

pub invariant_of-result : goal.invariant_of-result
invariant_of-result c =
    let g = c.args.geometry in
    let few : g.sets ≤ 8 = count_small g.sets g.sets_count in
    record { once = λ k h w. ap (λ row. times w (take g.ways row)) (get_or-replicate 8 k (range_with_len 0 8) [] (omega arith)) ∙ starts 8 g.ways (count_small g.ways g.ways_count) w }
