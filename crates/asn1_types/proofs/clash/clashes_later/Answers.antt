use Rattle.std.proofs.Common.{◌<◌, length}
use Rattle.asn1_types.proofs.Sound.{each_part, later_parts}
use Rattle.asn1_types.proofs.clash.clashes_later.Goals as goal

pub clashes_with-requires-clause-part : goal.clashes_with-requires-clause-part
clashes_with-requires-clause-part c =
    each_part (λ m. m < length c.args.table.now) c.args.parts.now c.loop-index.index c.index-parts-index.result c.requires c.loop-index-test.true c.index-parts-index.is

pub clashes_with-requires-clause-others : goal.clashes_with-requires-clause-others
clashes_with-requires-clause-others c = later_parts (λ m. m < length c.args.table.now) c.args.parts.now _ _ c.requires
