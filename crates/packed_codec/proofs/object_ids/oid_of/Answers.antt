use Rattle.std.proofs.Common.{◌≡◌, true}
use Rattle.std.specs.List.{list_all}
use Rattle.asn1_types.specs.Fits.{has_32_bits}
use Rattle.packed_codec.proofs.Arcs.{arcs_judged}
use Rattle.packed_codec.proofs.object_ids.oid_of.Goals as goal

pub returns : goal.returns
returns c =
    let small : list_all has_32_bits c.args.arcs.items ≡ true = cc in
    arcs_judged c.from_vec.result c.args.arcs.items small c.from_vec.ensures.one c.from_vec.ensures.value
