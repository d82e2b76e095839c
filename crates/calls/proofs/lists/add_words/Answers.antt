use Rattle.std.proofs.Common.{rules, arith, refl, sym, ◌≡◌, ◌-◌, ◌<◌, length, slice_get, Some, vec_len}
use Rattle.std.proofs.lemmas.Option.{slice_get_read}
use Rattle.calls.proofs.lists.add_words.Goals as goal

pub returns-in-lines : goal.returns-in-lines
returns-in-lines c = record { begins = λ _. (search rules, (c.new.result, search rules, search rules)); goes = search rules }

pub returns : goal.returns
returns c =
    let lists = c.args.lists.now in
    let item = c.in-Some.ensures.item in
    let same : vec_len lists ≡ length lists.items = search rules in
    let some : 0 < length lists.items = item.3.0 in
    let within : length lists.items - 1 < length lists.items = omega (arith, some) in
    let got : slice_get lists.items (length lists.items - 1) ≡ Some c.in-Some.list.now = slice_get_read lists.items (length lists.items) (length lists.items - 1) c.in-Some.list.now refl within (rw (sym same) item.1) in
    record { begins = search rules; goes = λ _. rw got (c.add.new.self, search rules, c.add.ensures) }
