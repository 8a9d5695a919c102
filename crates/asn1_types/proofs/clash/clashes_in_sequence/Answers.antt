use Rattle.std.proofs.Common.{◌<◌, length}
use Rattle.asn1_types.proofs.Sound.{each_part, later_parts}
use Rattle.asn1_types.proofs.clash.clashes_in_sequence.Goals as goal

pub clashes_in_run-requires-clause-part : goal.clashes_in_run-requires-clause-part
clashes_in_run-requires-clause-part c =
    each_part (λ m. m < length c.args.table.now) c.args.parts.now c.loop-index.index c.index-parts-index.result c.requires c.loop-index-test.true c.index-parts-index.is

pub clashes_in_run-requires-clause-others : goal.clashes_in_run-requires-clause-others
clashes_in_run-requires-clause-others c = later_parts (λ m. m < length c.args.table.now) c.args.parts.now _ _ c.requires
