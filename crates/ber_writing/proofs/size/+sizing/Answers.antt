use Rattle.std.proofs.Common.{◌≡◌, ◌<◌, ◌-◌, length, sym, ap, ◌∙◌, arith, Some}
use Rattle.std.specs.Prelude.{slice_get}
use Rattle.std.specs.Option.{option_copied}
use Rattle.asn1_types.specs.declared.row.TypeRow.TheVariants.{Sequence, Set, SequenceOf, SetOf, Choice, Tagged}
use Rattle.asn1_types.specs.Writing.{saturated}
use Rattle.asn1_types.specs.PackedSize.{packed_size}
use Rattle.asn1_types.proofs.Sound.{each_part, down_as}
use Rattle.asn1_types.proofs.FitLaws.{each_slot, not_within, false_not}
use Rattle.ber_writing.proofs.Sizes.{size_at, size_past, parts_none}
use Rattle.ber_writing.proofs.size.+sizing.Goals as goal

pub packed_size-returns-then-has : goal.packed_size-returns-then-has
packed_size-returns-then-has t c =
    rw (size_at c.args.table.now c.row.ensures.sound c.args.of.0 c.row.result.now c.row.ensures.value) c.row_size.ensures

pub packed_size-returns-else-has : goal.packed_size-returns-else-has
packed_size-returns-else-has t c =
    ap saturated (sym (size_past c.args.table.now c.args.of.0 c.args.value.now (not_within (length c.args.table.now) c.args.of.0 (λ lt. false_not (sym c.if-has.false ∙ c.has.ensures.1 lt)))))

pub row_size-sequence_size-requires : goal.row_size-sequence_size-requires
row_size-sequence_size-requires t c =
    let down = down_as c.args.table.now c.args.of.0 c.args.row.now (Sequence c.in-Sequence.parts) c.requires.row.sound c.requires.row.found c.in-Sequence.is in
    (omega arith, down)

pub row_size-sequence_size-requires-in-Set : goal.row_size-sequence_size-requires-in-Set
row_size-sequence_size-requires-in-Set t c =
    let down = down_as c.args.table.now c.args.of.0 c.args.row.now (Set c.in-Set.parts) c.requires.row.sound c.requires.row.found c.in-Set.is in
    (omega arith, down)

pub row_size-list_size-requires : goal.row_size-list_size-requires
row_size-list_size-requires t c =
    let down = down_as c.args.table.now c.args.of.0 c.args.row.now (SequenceOf c.in-SequenceOf.inner) c.requires.row.sound c.requires.row.found c.in-SequenceOf.is in
    let below : c.in-SequenceOf.inner.0 < c.args.of.0 = down.0 in
    (omega arith, below)

pub row_size-list_size-requires-in-SetOf : goal.row_size-list_size-requires-in-SetOf
row_size-list_size-requires-in-SetOf t c =
    let down = down_as c.args.table.now c.args.of.0 c.args.row.now (SetOf c.in-SetOf.inner) c.requires.row.sound c.requires.row.found c.in-SetOf.is in
    let below : c.in-SetOf.inner.0 < c.args.of.0 = down.0 in
    (omega arith, below)

pub row_size-choice_size-requires : goal.row_size-choice_size-requires
row_size-choice_size-requires t c =
    let down = down_as c.args.table.now c.args.of.0 c.args.row.now (Choice c.in-Choice.alternatives) c.requires.row.sound c.requires.row.found c.in-Choice.is in
    (omega arith, down)

pub row_size-packed_size-requires : goal.row_size-packed_size-requires
row_size-packed_size-requires t c =
    let down = down_as c.args.table.now c.args.of.0 c.args.row.now (Tagged c.in-Tagged.class c.in-Tagged.number c.in-Tagged.explicit c.in-Tagged.inner) c.requires.row.sound c.requires.row.found c.in-Tagged.is in
    let below : c.in-Tagged.inner.0 < c.args.of.0 = down.0 in
    (omega arith, tt)

pub choice_size-packed_size-requires : goal.choice_size-packed_size-requires
choice_size-packed_size-requires t c =
    let slot : slice_get c.args.alternatives.now c.in-Chosen.which ≡ Some c.in-Some.part.now = sym c.get.ensures ∙ ap option_copied c.in-Some.is in
    let lt : c.in-Some.part.now.inner.0 < c.args.of.0 = each_slot (λ m. m < c.args.of.0) c.args.alternatives.now c.in-Chosen.which c.in-Some.part.now c.requires.below slot in
    (omega arith, tt)

pub each_size-loop-index-init : goal.each_size-loop-index-init
each_size-loop-index-init t c = record {
  parts = omega (arith, c.min-index.ensures);
  values = omega (arith, c.min-index.ensures);
  so_far = ap saturated (sym (parts_none (packed_size c.args.table.now) c.args.parts.now c.args.values.now c.min-index.result c.min-index.ensures));
}

pub each_size-part_size-requires : goal.each_size-part_size-requires
each_size-part_size-requires t c =
    let within : c.loop-index.index - 1 < length c.args.parts.now = omega (arith, c.loop-index.invariant.parts, c.loop-index-test.true) in
    let lt : c.index-parts-index.result.inner.0 < c.args.of.0 = each_part (λ m. m < c.args.of.0) c.args.parts.now (c.loop-index.index - 1) c.index-parts-index.result c.requires.below within c.index-parts-index.is in
    (omega arith, lt)
