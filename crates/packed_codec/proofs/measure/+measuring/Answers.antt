use Rattle.std.proofs.Common.{◌≡◌, ◌<◌, length, sym, ap, ◌∙◌, arith, Some}
use Rattle.std.specs.Prelude.{slice_get}
use Rattle.std.specs.Option.{option_copied}
use Rattle.asn1_types.specs.declared.row.TypeRow.TheVariants.{Sequence, Set, SequenceOf, SetOf, Choice, Tagged}
use Rattle.asn1_types.proofs.Sound.{each_part, down_as}
use Rattle.asn1_types.proofs.FitLaws.{each_slot, not_within, false_not}
use Rattle.packed_codec.specs.Writing.{packed}
use Rattle.packed_codec.proofs.Sums.{grow, all_grown}
use Rattle.packed_codec.proofs.WriteLaws.{packed_at, packed_past, parts_cell, parts_done, values_cell, values_done}
use Rattle.packed_codec.proofs.measure.+measuring.Goals as goal

pub packed_len-returns-then-has : goal.packed_len-returns-then-has
packed_len-returns-then-has t c =
    rw (packed_at c.args.table.now c.row.ensures.sound c.args.of.0 c.row.result.now c.row.ensures.value) c.of_row.ensures

pub packed_len-returns-else-has : goal.packed_len-returns-else-has
packed_len-returns-else-has t c =
    rw (packed_past c.args.table.now c.args.of.0 c.args.value.now (not_within (length c.args.table.now) c.args.of.0 (λ lt. false_not (sym c.if-has.false ∙ c.has.ensures.1 lt)))) (omega arith)

pub of_row-of_sequence-requires : goal.of_row-of_sequence-requires
of_row-of_sequence-requires t c =
    let down = down_as c.args.table.now c.args.of.0 c.args.row.now (Sequence c.in-Sequence.parts) c.requires.row.sound c.requires.row.found c.in-Sequence.is in
    (omega arith, down)

pub of_row-of_sequence-requires-in-Set : goal.of_row-of_sequence-requires-in-Set
of_row-of_sequence-requires-in-Set t c =
    let down = down_as c.args.table.now c.args.of.0 c.args.row.now (Set c.in-Set.parts) c.requires.row.sound c.requires.row.found c.in-Set.is in
    (omega arith, down)

pub of_row-of_list-requires : goal.of_row-of_list-requires
of_row-of_list-requires t c =
    let down = down_as c.args.table.now c.args.of.0 c.args.row.now (SequenceOf c.in-SequenceOf.inner) c.requires.row.sound c.requires.row.found c.in-SequenceOf.is in
    let below : c.in-SequenceOf.inner.0 < c.args.of.0 = down.0 in
    (omega arith, below)

pub of_row-of_list-requires-in-SetOf : goal.of_row-of_list-requires-in-SetOf
of_row-of_list-requires-in-SetOf t c =
    let down = down_as c.args.table.now c.args.of.0 c.args.row.now (SetOf c.in-SetOf.inner) c.requires.row.sound c.requires.row.found c.in-SetOf.is in
    let below : c.in-SetOf.inner.0 < c.args.of.0 = down.0 in
    (omega arith, below)

pub of_row-of_choice-requires : goal.of_row-of_choice-requires
of_row-of_choice-requires t c =
    let down = down_as c.args.table.now c.args.of.0 c.args.row.now (Choice c.in-Choice.alternatives) c.requires.row.sound c.requires.row.found c.in-Choice.is in
    (omega arith, down)

pub of_row-packed_len-requires : goal.of_row-packed_len-requires
of_row-packed_len-requires t c =
    let down = down_as c.args.table.now c.args.of.0 c.args.row.now (Tagged c.in-Tagged.class c.in-Tagged.number c.in-Tagged.explicit c.in-Tagged.inner) c.requires.row.sound c.requires.row.found c.in-Tagged.is in
    let below : c.in-Tagged.inner.0 < c.args.of.0 = down.0 in
    (omega arith, tt)

pub of_choice-packed_len-requires : goal.of_choice-packed_len-requires
of_choice-packed_len-requires t c =
    let slot : slice_get c.args.alternatives.now c.in-Chosen.which ≡ Some c.in-Some.part.now = sym c.get.ensures ∙ ap option_copied c.in-Some.is in
    let lt : c.in-Some.part.now.inner.0 < c.args.of.0 = each_slot (λ m. m < c.args.of.0) c.args.alternatives.now c.in-Chosen.which c.in-Some.part.now c.requires.below slot in
    (omega arith, tt)

pub of_parts-of_part-requires : goal.of_parts-of_part-requires
of_parts-of_part-requires t c =
    let lp : c.loop-index.index < length c.args.parts.now = omega (arith, c.min-count.ensures) in
    let lt : c.index-parts-index.result.inner.0 < c.args.of.0 = each_part (λ m. m < c.args.of.0) c.args.parts.now c.loop-index.index c.index-parts-index.result c.requires.below lp c.index-parts-index.is in
    (omega arith, lt)

pub of_parts-loop-index-preserved : goal.of_parts-loop-index-preserved
of_parts-loop-index-preserved t c =
    let i = c.loop-index.index in
    let lp : i < length c.args.parts.now = omega (arith, c.min-count.ensures) in
    let lv : i < length c.args.values.now = omega (arith, c.min-count.ensures) in
    let cell = parts_cell (packed c.args.table.now) c.args.parts.now c.args.values.now i c.index-parts-index.result c.index-values-index.result lp lv c.index-parts-index.is c.index-values-index.is in
    let g = grow c.loop-index.size c.of_part.result c.saturating_add-size.result _ _ _ _ c.of_part.ensures c.saturating_add-size.ensures cell c.loop-index.invariant.so_far in
    record { few = g.few; so_far = g.so_far }

pub of_parts-returns : goal.of_parts-returns
of_parts-returns t c = all_grown c.loop-index.size _ _ c.loop-index.invariant.few (ap length (parts_done (packed c.args.table.now) c.args.parts.now c.args.values.now c.loop-index.index (omega (arith, c.min-count.ensures)))) c.loop-index.invariant.so_far

pub of_items-loop-value-preserved : goal.of_items-loop-value-preserved
of_items-loop-value-preserved t c =
    let cell = values_cell (packed c.args.table.now c.args.inner.0) c.args.values.now c.loop-value.value-index c.value-item.result c.loop-value-test.true c.value-item.is in
    let g = grow c.loop-value.size c.packed_len.result c.saturating_add-size.result _ _ _ _ c.packed_len.ensures c.saturating_add-size.ensures cell c.loop-value.invariant.so_far in
    record { few = g.few; so_far = g.so_far }

pub of_items-returns : goal.of_items-returns
of_items-returns t c = all_grown c.loop-value.size _ _ c.loop-value.invariant.few (ap length (values_done (packed c.args.table.now c.args.inner.0) c.args.values.now c.loop-value.value-index (omega arith))) c.loop-value.invariant.so_far
