use Rattle.std.proofs.Common.{List, ap, refl}
use Rattle.list.proofs.Altered.{lent_altered, none_altered}
use Rattle.port.specs.Numbers.{answered, out_number}
use Rattle.port.specs.declared.numbers.NumberOut.{NumberOut}
use Rattle.port.specs.declared.numbers.Numbers.{Numbers}
use Rattle.port.proofs.numbers.Numbers.put_answer.Goals as goal

pub returns-in_default : goal.returns-in_default
returns-in_default c =
    let put : List NumberOut → Numbers = λ xs. record c.args.self.now { out = record { items = xs } } in
    ap put (none_altered out_number c.args.number (answered c.args.status c.args.line) c.args.self.now.out.items c.as_slice.result.now c.as_slice.ensures.value c.in_default.ensures.index)

pub returns : goal.returns
returns c =
    let put : List NumberOut → Numbers = λ xs. record c.args.self.now { out = record { items = xs } } in
    ap put (lent_altered out_number c.args.number (answered c.args.status c.args.line) c.index-as_mut_slice-i.result _ c.args.self.now.out.items c.as_slice.result.now c.as_mut_slice.result.now c.in-Some.i c.as_slice.ensures.value c.as_mut_slice.ensures.value c.in-Some.ensures.index (rw c.answer_to.ensures refl))
