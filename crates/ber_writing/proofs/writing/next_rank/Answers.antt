use Rattle.std.proofs.Common.{◌<◌, ◌-◌, arith, length}
use Rattle.asn1_types.proofs.Sound.{each_part}
use Rattle.asn1_types.specs.Writing.{of_rank, writes}
use Rattle.ber_spelling.proofs.WriteLaws.{parts_past, parts_still}
use Rattle.ber_writing.proofs.writing.next_rank.Goals as goal

pub loop-index-init : goal.loop-index-init
loop-index-init c = record {
  parts = omega (arith, c.min-index.ensures);
  values = omega (arith, c.min-index.ensures);
  within = omega arith;
  none = λ k ge lt. parts_past (of_rank k (writes c.args.table.now)) c.args.parts.now c.args.values.now c.min-index.result c.min-index.ensures;
}

pub raised-next-requires-clause-part : goal.raised-next-requires-clause-part
raised-next-requires-clause-part c =
    let within : c.loop-index.index - 1 < length c.args.parts.now = omega (arith, c.loop-index.invariant.parts, c.loop-index-test.true) in
    record { below = each_part (λ m. m < c.args.of.0) c.args.parts.now (c.loop-index.index - 1) c.index-parts-index.result c.requires.parts.below within c.index-parts-index.is; within = c.requires.parts.within }

pub loop-index-preserved : goal.loop-index-preserved
loop-index-preserved c = record {
  parts = omega (arith, c.loop-index.invariant.parts);
  values = omega (arith, c.loop-index.invariant.values);
  within = c.raised-next.ensures.within;
  none = λ k ge lt. parts_still (of_rank k (writes c.args.table.now)) c.args.parts.now c.args.values.now c.loop-index.index c.index-parts-index.result c.index-values-index.result c.loop-index-test.true c.loop-index.invariant.parts c.loop-index.invariant.values c.index-parts-index.is c.index-values-index.is
      (c.raised-next.ensures.none k ge lt) (c.loop-index.invariant.none k (omega (arith, c.raised-next.ensures.more)) lt);
}
