use Rattle.std.proofs.Common.{◌<◌, length}
use Rattle.asn1_types.proofs.Sound.{each_part}
use Rattle.asn1_types.proofs.clash.clashes_with.Goals as goal

pub meet-requires-clause-b : goal.meet-requires-clause-b
meet-requires-clause-b c =
    each_part (λ m. m < length c.args.table.now) c.args.others.now c.loop-other.other-index c.other-item.result c.requires.others c.loop-other-test.true c.other-item.is
