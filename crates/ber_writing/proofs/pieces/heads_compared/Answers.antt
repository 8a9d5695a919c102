use Rattle.std.proofs.Common.{List, ℕ, false, ◌∙◌}
use Rattle.asn1_types.specs.Writing.{identifier}
use Rattle.ber_writing.specs.Comparing.{compared}
use Rattle.ber_writing.proofs.ComparedLaws.{room_front, identifier_len}
use Rattle.ber_writing.proofs.pieces.heads_compared.Goals as goal

pub returns : goal.returns
returns c =
    let a : List ℕ = identifier c.args.a.tag.class c.args.a.constructed c.args.a.tag.number in
    let b : List ℕ = identifier c.args.b.tag.class c.args.b.constructed c.args.b.tag.number in
    c.octets_compared.ensures
    ∙ (λ i. compared (room_front a c.put_identifier.new.room _ _ c.identifier_len-len.result c.put_identifier.ensures.start (c.identifier_len-len.ensures.length ∙ identifier_len c.args.a.tag.class false c.args.a.constructed c.args.a.tag.number) c.put_identifier.ensures.put i)
    (room_front b c.put_identifier-2.new.room _ _ c.identifier_len-len_other.result c.put_identifier-2.ensures.start (c.identifier_len-len_other.ensures.length ∙ identifier_len c.args.b.tag.class false c.args.b.constructed c.args.b.tag.number) c.put_identifier-2.ensures.put i))
