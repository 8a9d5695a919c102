use Rattle.std.proofs.Common.{◌<◌, length}
use Rattle.asn1_types.proofs.Sound.{each_part}
use Rattle.asn1_types.proofs.defaults.has_bad_part.Goals as goal

pub is_bad_part-requires : goal.is_bad_part-requires
is_bad_part-requires c =
    each_part (λ m. m < length c.args.table.now) c.args.parts.now c.loop-part.part-index c.part-item.result c.requires c.loop-part-test.true c.part-item.is
