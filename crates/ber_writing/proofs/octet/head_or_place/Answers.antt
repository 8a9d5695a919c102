use Rattle.std.proofs.Common.{sym, ◌∙◌, length-append, false, arith}
use Rattle.asn1_types.specs.Writing.{identifier, length_octets}
use Rattle.ber_writing.proofs.HeadLaws.{same_length, in_head}
use Rattle.ber_writing.proofs.octet.head_or_place.Goals as goal

pub returns : goal.returns
returns c = λ contents e.
    let same = same_length c.args.tag.class c.args.constructed false c.args.tag.number in
    let both = length-append (identifier c.args.tag.class c.args.constructed c.args.tag.number) (length_octets c.args.count) in
    in_head c.args.constructed c.args.tag contents c.put_head.new.room _ c.put_head.result c.args.at c.args.count e c.put_head.ensures.put (omega (arith, same, both)) (omega (arith, same, both)) ∙ sym c.octet_in.ensures
