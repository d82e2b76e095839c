use Rattle.std.proofs.Common.{◌≡◌, length, sym, ◌∙◌, rules}
use Rattle.list.proofs.Removed.{last_taken, none_taken, refill_same}
use Rattle.list.proofs.keyed.take.Goals as goal

pub returns-in_err-index : goal.returns-in_err-index
returns-in_err-index g c =
    let xs = c.args.list.now.items in
    let zs = c.take_out.new.entries in
    let long : length zs ≡ length xs = search rules in
    let s = none_taken g.T.Keyed.key c.args.sought xs c.as_mut_slice.result.now zs c.as_mut_slice.ensures.value c.in_err-index.ensures.index c.take_out.ensures.after in
    record { value = search (rules, s); after = refill_same xs zs long ∙ s.1 }

pub returns : goal.returns
returns g c =
    let xs = c.args.list.now.items in
    let zs = c.take_out.new.entries in
    let long : length zs ≡ length xs = search rules in
    let s = last_taken g.T.Keyed.key c.args.sought xs c.as_mut_slice.result.now zs c.in_ok-index.index c.pop.new.self.items c.in_ok-entry.entry c.as_mut_slice.ensures.value c.in_ok-index.ensures.index c.take_out.ensures.after (sym (refill_same xs zs long) ∙ c.in_ok-entry.ensures.items) in
    record { value = search rules; after = s.1 }
