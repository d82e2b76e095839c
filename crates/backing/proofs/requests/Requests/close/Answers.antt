use Rattle.std.proofs.Common.{sym, ap, ◌∙◌, refl}
use Rattle.backing.proofs.Kept.{still_few}
use Rattle.backing.proofs.requests.Requests.close.Goals as goal
use Rattle.backing.specs.Open.{ticket_of}
use Rattle.list.proofs.Distinct.{distinct_without}
use Rattle.std.proofs.lemmas.Option.{slice_get_read}
use Rattle.std.specs.List.{slice_get}

pub invariant_of-self : goal.invariant_of-self
invariant_of-self g c =
    let items = c.args.self.now.list.items in
    record {
      differ = rw c.take.ensures.after (distinct_without ticket_of items _ c.args.self.now.differ);
      few = rw c.take.ensures.after (still_few _ items _ c.args.self.now.few);
    }

pub returns : goal.returns
returns g c =
    let found = c.in_ok-request.ensures.lookup in (
      ap (λ xs. slice_get xs c.args.index) (sym c.as_slice.ensures.value) ∙ slice_get_read c.as_slice.result.now _ c.args.index c.in_ok-request.field-0.now refl found.3.0 found.1,
      c.take.ensures.after,
    )
