use Rattle.std.proofs.Common.{◌<◌, length, arith}
use Rattle.asn1_types.proofs.Sound.{each_part}
use Rattle.asn1_types.proofs.nesting.greatest_part.Goals as goal

pub bounds-nestings-part : goal.bounds-nestings-part
bounds-nestings-part c =
    let lt : c.part-item.result.inner.0 < length c.args.nestings.now = each_part (λ m. m < length c.args.nestings.now) c.args.parts.now c.loop-part.part-index c.part-item.result c.requires c.loop-part-test.true c.part-item.is in
    omega arith
