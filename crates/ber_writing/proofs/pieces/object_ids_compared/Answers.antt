use Rattle.std.proofs.Common.{false}
use Rattle.std.specs.List.{flat_map}
use Rattle.asn1_types.specs.Writing.{base_128, subidentifiers}
use Rattle.ber_writing.proofs.pieces.object_ids_compared.Goals as goal

pub returns : goal.returns
returns c = rw (c.in_ok-arcs.ensures, c.in_ok-others.ensures) (c.whole.ensures false (flat_map base_128 (subidentifiers c.in_ok-arcs.arcs.now)) (flat_map base_128 (subidentifiers c.in_ok-others.others.now)) (record { len = c.arcs_len.ensures; other = c.arcs_len-2.ensures; order = λ p q. c.in_ok-arcs_compared.ensures }))
