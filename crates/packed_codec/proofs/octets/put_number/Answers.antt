use Rattle.std.specs.Int.{w64, cast_signed, cast_unsigned}
use Rattle.std.proofs.lemmas.Int.{to_z-of_z}
use Rattle.packed_codec.proofs.Room.{both_as}
use Rattle.packed_codec.proofs.Texts.{number_text}
use Rattle.packed_codec.proofs.octets.put_number.Goals as goal

pub returns : goal.returns
returns c =
    let whole = number_text c.args.number (cast_signed w64 (cast_unsigned w64 c.args.number)) c.to_be_bytes-octets.result c.unpadded-octets.result.now (to_z-of_z w64 c.args.number c.ranges.number) c.to_be_bytes-octets.ensures c.unpadded-octets.ensures.value in
    both_as _ _ _ c.args.at c.put_octet-behind.result c.put_octets.result c.args.out.now c.put_octet-behind.new.out c.put_octets.new.out whole c.requires c.put_octet-behind.ensures c.put_octets.ensures
