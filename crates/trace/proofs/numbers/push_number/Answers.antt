use Rattle.std.proofs.Common.{arith, rules}
use Rattle.trace.proofs.Groups.{group_pushed, room_one}
use Rattle.trace.proofs.numbers.push_number.Goals as goal

pub push-requires : goal.push-requires
push-requires c = (omega arith, room_one c.loop-rest.bytes.items c.args.bytes.now.items _ c.loop-rest.rest c.loop-rest.invariant.1 c.requires)

pub loop-rest-preserved : goal.loop-rest-preserved
loop-rest-preserved c = (omega arith, search (rules, group_pushed))
