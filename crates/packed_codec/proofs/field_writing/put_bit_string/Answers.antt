use Rattle.std.proofs.Common.{sym, ap, ◌∙◌}
use Rattle.asn1_types.specs.ValueView.{value_of}
use Rattle.packed_codec.proofs.Room.{both_as}
use Rattle.packed_codec.proofs.Texts.{bits_text}
use Rattle.packed_codec.proofs.field_writing.put_bit_string.Goals as goal

pub returns-in-Bits : goal.returns-in-Bits
returns-in-Bits c =
    let whole = bits_text c.in-Bits.octets c.as_slice.result.now c.in-Bits.unused c.args.value.now (ap value_of (sym c.in-Bits.is) ∙ c.value.view_is) c.as_slice.ensures in
    both_as _ _ _ c.args.at c.put_octet-behind.result c.put_counted.result c.args.out.now c.put_octet-behind.new.out c.put_counted.new.out whole c.requires c.put_octet-behind.ensures c.put_counted.ensures
