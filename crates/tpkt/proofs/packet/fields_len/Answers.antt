use Rattle.std.proofs.Common.{arith}
use Rattle.tpkt.proofs.WrittenLaws.{fields_length}
use Rattle.tpkt.proofs.packet.fields_len.Goals as goal

pub returns : goal.returns
returns c = omega (arith, fields_length c.args.ends.now, c.size_len.ensures.len, c.selector_len.ensures.len 193, c.selector_len-2.ensures.len 194)
