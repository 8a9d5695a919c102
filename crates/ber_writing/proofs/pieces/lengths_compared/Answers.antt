use Rattle.std.proofs.Common.{◌∙◌}
use Rattle.asn1_types.specs.Writing.{length_octets}
use Rattle.ber_writing.specs.Comparing.{compared}
use Rattle.ber_writing.proofs.ComparedLaws.{room_front}
use Rattle.ber_writing.proofs.pieces.lengths_compared.Goals as goal

pub returns : goal.returns
returns c =
    c.octets_compared.ensures
    ∙ (λ i. compared (room_front (length_octets c.args.count) c.put_length.new.room _ _ c.length_len-len.result c.put_length.ensures.start c.length_len-len.ensures.length c.put_length.ensures.put i)
    (room_front (length_octets c.args.other) c.put_length-2.new.room _ _ c.length_len-len_other.result c.put_length-2.ensures.start c.length_len-len_other.ensures.length c.put_length-2.ensures.put i))
