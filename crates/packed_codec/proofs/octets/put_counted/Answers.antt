use Rattle.std.proofs.Common.{length, arith, length-append}
use Rattle.byteorder.specs.Endian.{big_bytes}
use Rattle.packed_codec.proofs.Room.{both, kept}
use Rattle.packed_codec.proofs.octets.put_counted.Goals as goal

pub put_octets-requires : goal.put_octets-requires
put_octets-requires c =
    let a = length-append (big_bytes 4 (length c.args.octets.now)) c.args.octets.now in
    let n = c.put_count-behind.ensures.ends in
    let k = kept (big_bytes 4 (length c.args.octets.now)) c.args.at c.args.out.now c.put_count-behind.new.out c.put_count-behind.result c.put_count-behind.ensures (omega arith) in
    omega arith

pub returns : goal.returns
returns c =
    both (big_bytes 4 (length c.args.octets.now)) c.args.octets.now c.args.at c.put_count-behind.result c.put_octets.result c.args.out.now c.put_count-behind.new.out c.put_octets.new.out c.requires c.put_count-behind.ensures c.put_octets.ensures
