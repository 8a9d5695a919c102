use Rattle.std.proofs.Common.{◌-◌, arith}
use Rattle.asn1_types.specs.Writing.{base_128}
use Rattle.ber_writing.proofs.Counts.{each_room}
use Rattle.ber_writing.proofs.fields.put_each.Goals as goal

pub put_base_128-start-requires-clause-room : goal.put_base_128-start-requires-clause-room
put_base_128-start-requires-clause-room c = omega (arith, each_room base_128 c.args.numbers.now (c.loop-index.index - 1) c.loop-index.index (omega arith) (omega arith))
