use Rattle.std.proofs.Common.{◌<◌, ◌-◌, length, refl, arith}
use Rattle.asn1_types.proofs.Sound.{each_part}
use Rattle.asn1_types.specs.Writing.{of_rank, writes}
use Rattle.ber_spelling.proofs.WriteLaws.{parts_past}
use Rattle.ber_writing.proofs.Counts.{parts_room}
use Rattle.ber_writing.proofs.octet.ranked_len.Goals as goal

pub loop-index-init : goal.loop-index-init
loop-index-init c =
    let none = parts_past (of_rank c.args.rank (writes c.args.table.now)) c.args.parts.now c.args.values.now c.min-index.result c.min-index.ensures in
    record {
      parts = omega (arith, c.min-index.ensures);
      values = omega (arith, c.min-index.ensures);
      so_far = rw none refl;
    }

pub if_ranked_len-count-requires-clause-part : goal.if_ranked_len-count-requires-clause-part
if_ranked_len-count-requires-clause-part c =
    let within : c.loop-index.index - 1 < length c.args.parts.now = omega (arith, c.loop-index.invariant.parts, c.loop-index-test.true) in
    record { below = each_part (λ m. m < c.args.of.0) c.args.parts.now (c.loop-index.index - 1) c.index-parts-index.result c.requires.parts.below within c.index-parts-index.is; within = c.requires.parts.within }

pub if_ranked_len-count-requires-clause-short : goal.if_ranked_len-count-requires-clause-short
if_ranked_len-count-requires-clause-short c =
    let within : c.loop-index.index - 1 < length c.args.parts.now = omega (arith, c.loop-index.invariant.parts, c.loop-index-test.true) in
    let other : c.loop-index.index - 1 < length c.args.values.now = omega (arith, c.loop-index.invariant.values, c.loop-index-test.true) in
    let room = parts_room (of_rank c.args.rank (writes c.args.table.now)) c.args.parts.now c.args.values.now (c.loop-index.index - 1) c.loop-index.index c.index-parts-index.result c.index-values-index.result (omega (arith, c.loop-index-test.true)) within other c.index-parts-index.is c.index-values-index.is in
    omega (arith, room, c.requires.short)

pub overflow_add-count : goal.overflow_add-count
overflow_add-count c =
    let within : c.loop-index.index - 1 < length c.args.parts.now = omega (arith, c.loop-index.invariant.parts, c.loop-index-test.true) in
    let other : c.loop-index.index - 1 < length c.args.values.now = omega (arith, c.loop-index.invariant.values, c.loop-index-test.true) in
    let room = parts_room (of_rank c.args.rank (writes c.args.table.now)) c.args.parts.now c.args.values.now (c.loop-index.index - 1) c.loop-index.index c.index-parts-index.result c.index-values-index.result (omega (arith, c.loop-index-test.true)) within other c.index-parts-index.is c.index-values-index.is in
    omega (arith, room, c.requires.short, c.loop-index.invariant.so_far, c.if_ranked_len-count.ensures)
