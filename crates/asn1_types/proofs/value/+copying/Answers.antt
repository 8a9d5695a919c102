use Rattle.std.proofs.Common.{arith}
use Rattle.asn1_types.proofs.Depths.{item_depth, part_depth}
use Rattle.asn1_types.proofs.value.+copying.Goals as goal

pub copied_list-copied-requires : goal.copied_list-copied-requires
copied_list-copied-requires t c =
    (omega (arith, item_depth c.args.items.now c.loop-value.value-index c.value-item.result c.loop-value-test.true c.value-item.is), tt)

pub copied_parts-copied-requires : goal.copied_parts-copied-requires
copied_parts-copied-requires t c =
    (omega (arith, part_depth c.args.parts.now c.loop-part.part-index c.in-Some.value c.part-item.result c.loop-part-test.true c.part-item.is c.in-Some.is), tt)
