use Rattle.std.proofs.Common.{◌≡◌, ◌<◌, ◌-◌, sym, ap, ◌∙◌, arith, length, Some}
use Rattle.std.specs.Prelude.{slice_get}
use Rattle.std.specs.Option.{option_copied}
use Rattle.asn1_types.specs.declared.row.TypeRow.TheVariants.{Sequence, SequenceOf, SetOf, Set, Choice, Tagged}
use Rattle.asn1_types.proofs.Sound.{each_part, down_as}
use Rattle.asn1_types.proofs.FitLaws.{not_within, false_not, each_slot}
use Rattle.asn1_types.specs.Writing.{saturated, writes}
use Rattle.ber_writing.proofs.SetCounts.{as_sequence}
use Rattle.ber_spelling.proofs.WriteLaws.{parts_past, writes_at, writes_past}
use Rattle.ber_writing.proofs.length.+measuring.Goals as goal

pub value_len-returns-then-has : goal.value_len-returns-then-has
value_len-returns-then-has t c =
    rw (writes_at c.args.table.now c.row.ensures.sound c.args.of.0 c.row.result.now c.row.ensures.value) c.row_len.ensures

pub value_len-returns-else-has : goal.value_len-returns-else-has
value_len-returns-else-has t c =
    ap (λ x. saturated (length x)) (sym (writes_past c.args.table.now c.args.of.0 c.args.tag c.args.value.now (not_within (length c.args.table.now) c.args.of.0 (λ lt. false_not (sym c.if-has.false ∙ c.has.ensures.1 lt)))))

pub row_len-list_len-requires : goal.row_len-list_len-requires
row_len-list_len-requires t c =
    let down = down_as c.args.table.now c.args.of.0 c.args.row.now (SequenceOf c.in-SequenceOf.inner) c.requires.row.sound c.requires.row.found c.in-SequenceOf.is in
    let below : c.in-SequenceOf.inner.0 < c.args.of.0 = down.0 in
    (omega arith, below)

pub row_len-list_len-requires-in-SetOf : goal.row_len-list_len-requires-in-SetOf
row_len-list_len-requires-in-SetOf t c =
    let down = down_as c.args.table.now c.args.of.0 c.args.row.now (SetOf c.in-SetOf.inner) c.requires.row.sound c.requires.row.found c.in-SetOf.is in
    let below : c.in-SetOf.inner.0 < c.args.of.0 = down.0 in
    (omega arith, below)

pub row_len-sequence_len-requires : goal.row_len-sequence_len-requires
row_len-sequence_len-requires t c =
    let down = down_as c.args.table.now c.args.of.0 c.args.row.now (Sequence c.in-Sequence.parts) c.requires.row.sound c.requires.row.found c.in-Sequence.is in
    (omega arith, rw c.as_slice.ensures down)

pub row_len-choice_len-requires : goal.row_len-choice_len-requires
row_len-choice_len-requires t c =
    let down = down_as c.args.table.now c.args.of.0 c.args.row.now (Choice c.in-Choice.alternatives) c.requires.row.sound c.requires.row.found c.in-Choice.is in
    (omega arith, down)

pub row_len-explicit_len-requires : goal.row_len-explicit_len-requires
row_len-explicit_len-requires t c =
    let down = down_as c.args.table.now c.args.of.0 c.args.row.now (Tagged c.in-Tagged.class c.in-Tagged.number c.in-Tagged.explicit c.in-Tagged.inner) c.requires.row.sound c.requires.row.found c.in-Tagged.is in
    let below : c.in-Tagged.inner.0 < c.args.of.0 = down.0 in
    (omega arith, below)

pub row_len-value_len-requires : goal.row_len-value_len-requires
row_len-value_len-requires t c =
    let down = down_as c.args.table.now c.args.of.0 c.args.row.now (Tagged c.in-Tagged.class c.in-Tagged.number c.in-Tagged.explicit c.in-Tagged.inner) c.requires.row.sound c.requires.row.found c.in-Tagged.is in
    let below : c.in-Tagged.inner.0 < c.args.of.0 = down.0 in
    (omega arith, tt)

pub alternative_len-value_len-requires : goal.alternative_len-value_len-requires
alternative_len-value_len-requires t c =
    let slot : slice_get c.args.alternatives.now c.in-Chosen.which ≡ Some c.in-Some.part.now = sym c.get.ensures ∙ ap option_copied c.in-Some.is in
    let lt : c.in-Some.part.now.inner.0 < c.args.of.0 = each_slot (λ m. m < c.args.of.0) c.args.alternatives.now c.in-Chosen.which c.in-Some.part.now c.requires.below slot in
    (omega arith, tt)

pub parts_len-loop-index-init : goal.parts_len-loop-index-init
parts_len-loop-index-init t c = record {
  parts = omega (arith, c.min-index.ensures);
  values = omega (arith, c.min-index.ensures);
  so_far = ap (λ x. saturated (length x)) (sym (parts_past (writes c.args.table.now) c.args.parts.now c.args.values.now c.min-index.result c.min-index.ensures));
}

pub parts_len-part_len-requires : goal.parts_len-part_len-requires
parts_len-part_len-requires t c =
    let within : c.loop-index.index - 1 < length c.args.parts.now = omega (arith, c.loop-index.invariant.parts, c.loop-index-test.true) in
    let lt : c.index-parts-index.result.inner.0 < c.args.of.0 = each_part (λ m. m < c.args.of.0) c.args.parts.now (c.loop-index.index - 1) c.index-parts-index.result c.requires.below within c.index-parts-index.is in
    (omega arith, lt)

pub row_len-sequence_len-requires-in-Set : goal.row_len-sequence_len-requires-in-Set
row_len-sequence_len-requires-in-Set t c =
    let down = down_as c.args.table.now c.args.of.0 c.args.row.now (Set c.in-Set.parts) c.requires.row.sound c.requires.row.found c.in-Set.is in
    (omega arith, rw c.as_slice-in-Set.ensures down)

pub row_len-returns-in-Set : goal.row_len-returns-in-Set
row_len-returns-in-Set t c =
    let same = c.sequence_len-in-Set.ensures ∙ ap saturated (sym (as_sequence (writes c.args.table.now) c.tag_or-tag-in-Set.result c.as_slice-in-Set.result.now c.args.value.now)) in
    rw c.in-Set.is (rw (c.tag_or-tag-in-Set.ensures, c.as_slice-in-Set.ensures) at same)
