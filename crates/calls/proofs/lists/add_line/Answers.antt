use Rattle.std.proofs.Common.{inr, rules}
use Rattle.calls.proofs.lists.add_line.Goals as goal

pub returns : goal.returns
returns c = inr (c.in_ok-words.words.items, search rules, search rules)
