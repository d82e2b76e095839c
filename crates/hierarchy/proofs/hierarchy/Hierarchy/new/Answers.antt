use Rattle.std.proofs.Common.{◌∙◌, sym, subst, arith}
use Rattle.hierarchy.specs.AnyBottom.{bottom_facts}
use Rattle.hierarchy.specs.Hierarchy.{StandsOver}
use Rattle.level.specs.Level.{level_known}
use Rattle.hierarchy.proofs.hierarchy.Hierarchy.new.Goals as goal

pub returns-in-Some-clause-covers : goal.returns-in-Some-clause-covers
returns-in-Some-clause-covers c =
    let a = c.new-level.ensures.covers in
    let b = c.new.ensures.covers in
    let p = a.pace in
    let q = b.pace in
    subst (λ upper. StandsOver upper (bottom_facts c.args.bottom) (level_known c.new.result)) (sym c.in-Some.is) (record {
      lines = b.lines ∙ a.lines;
      contents = λ line. b.contents line ∙ a.contents line;
      bad = λ line. b.bad line ∙ a.bad line;
      pace = omega arith;
    })
