use Rattle.std.proofs.Common.{length, ap, arith}
use Rattle.trace.specs.Items.{item_of}
use Rattle.trace.proofs.Sizes.{encode_size}
use Rattle.trace.proofs.encoding.encoded.Goals as goal

pub push_record-requires : goal.push_record-requires
push_record-requires c = omega (arith, ap length c.new-bytes.ensures, encode_size (item_of c.args.record.now c.args.buffer.now) c.requires)
