use Rattle.std.proofs.Common.{◌≡◌, [], Result, Ok, rules, sym, subst}
use Rattle.anyhow.specs.declared.error.Error.{Error}
use Rattle.std.specs.Str.Lines.{lines}
use Rattle.std.proofs.lemmas.Iterator.{items_from_drains}
use Rattle.std.proofs.lemmas.Iterator.Consumers.{YieldsList-from_enumerate}
use Rattle.std.proofs.lemmas.Iterator.Splits.{YieldsList-from_lines}
use Rattle.calls.specs.Lists.{AddsLine}
use Rattle.calls.proofs.Reading.{texts, AddsLines-push, texts-enumerate}
use Rattle.calls.proofs.lists.read_lists.Goals as goal

pub returns : goal.returns
returns c =
    let chain = YieldsList-from_enumerate {s = c.into_iter-index-iterator.result} (YieldsList-from_lines c.args.text.now (search rules)) (search rules) in
    let drained = items_from_drains c.loop-index.yielded (c.loop-index.index-iterator, c.loop-index.yielded_by, λ _. (c.next.new.self, c.in-None.ensures.steps)) chain in
    let all : texts c.loop-index.yielded ≡ lines c.args.text.now = texts-enumerate _ _ drained in
    rw (sym all) c.loop-index.invariant

pub loop-index-preserved : goal.loop-index-preserved
loop-index-preserved c =
    let taken : c.add_line.result ≡ Ok tt = search rules in
    let P : Result Unit Error → Type 0 = λ r. AddsLine c.in-Some.line.now c.loop-index.lists.items r c.add_line.new.lists.items in
    let line : P (Ok tt) = subst P taken c.add_line.ensures in
    AddsLines-push c.loop-index.yielded (c.in-Some.index, c.in-Some.line) [] c.loop-index.lists.items c.add_line.new.lists.items c.loop-index.invariant line
