use Rattle.std.proofs.Common.{length, ap, arith}
use Rattle.packed_codec.proofs.Sums.{few_is, grow, all_grown}
use Rattle.packed_codec.proofs.WriteLaws.{numbers_cell, numbers_done}
use Rattle.packed_codec.proofs.measure.of_each.Goals as goal

pub loop-number-preserved : goal.loop-number-preserved
loop-number-preserved c =
    let cell = numbers_cell c.args.numbers.now c.loop-number.number-index c.loop-number-test.true in
    let g = grow c.loop-number.size c.of_base_128.result c.saturating_add-size.result _ _ _ _ (few_is c.of_base_128.result _ c.of_base_128.ensures.value c.of_base_128.ensures.few) c.saturating_add-size.ensures cell c.loop-number.invariant.so_far in
    record { few = g.few; so_far = g.so_far }

pub returns : goal.returns
returns c = all_grown c.loop-number.size _ _ c.loop-number.invariant.few (ap length (numbers_done c.args.numbers.now c.loop-number.number-index (omega arith))) c.loop-number.invariant.so_far
