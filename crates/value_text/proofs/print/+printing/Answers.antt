use Rattle.std.proofs.Common.{◌≡◌, ◌<◌, length, sym, ap, ◌∙◌, arith, Some}
use Rattle.std.specs.Prelude.{slice_get}
use Rattle.std.specs.Option.{option_copied}
use Rattle.asn1_types.specs.declared.row.TypeRow.TheVariants.{Sequence, Set, SequenceOf, SetOf, Choice, Tagged}
use Rattle.asn1_types.proofs.Sound.{each_part, down_as}
use Rattle.asn1_types.proofs.FitLaws.{each_slot, not_within, false_not}
use Rattle.value_text.specs.Printed.{printed}
use Rattle.value_text.proofs.PrintLaws.{printed_at, printed_past, parts_done, slot_cell, goes_on, ends}
use Rattle.value_text.proofs.print.+printing.Goals as goal

pub put_typed-returns-then-has : goal.put_typed-returns-then-has
put_typed-returns-then-has t c =
    rw (printed_at c.args.table.now c.row.ensures.sound c.args.of.0 c.row.result.now c.row.ensures.value) c.put_row.ensures

pub put_typed-returns-else-has : goal.put_typed-returns-else-has
put_typed-returns-else-has t c =
    rw (printed_past c.args.table.now c.args.of.0 c.args.value.now (not_within (length c.args.table.now) c.args.of.0 (λ lt. false_not (sym c.if-has.false ∙ c.has.ensures.1 lt)))) c.put.ensures

pub put_row-put_sequence-requires : goal.put_row-put_sequence-requires
put_row-put_sequence-requires t c =
    (omega arith, down_as c.args.table.now c.args.of.0 c.args.row.now (Sequence c.in-Sequence.parts) c.requires.row.sound c.requires.row.found c.in-Sequence.is)

pub put_row-put_sequence-requires-in-Set : goal.put_row-put_sequence-requires-in-Set
put_row-put_sequence-requires-in-Set t c =
    (omega arith, down_as c.args.table.now c.args.of.0 c.args.row.now (Set c.in-Set.parts) c.requires.row.sound c.requires.row.found c.in-Set.is)

pub put_row-put_list-requires : goal.put_row-put_list-requires
put_row-put_list-requires t c =
    let down = down_as c.args.table.now c.args.of.0 c.args.row.now (SequenceOf c.in-SequenceOf.inner) c.requires.row.sound c.requires.row.found c.in-SequenceOf.is in
    (omega arith, down.0)

pub put_row-put_list-requires-in-SetOf : goal.put_row-put_list-requires-in-SetOf
put_row-put_list-requires-in-SetOf t c =
    let down = down_as c.args.table.now c.args.of.0 c.args.row.now (SetOf c.in-SetOf.inner) c.requires.row.sound c.requires.row.found c.in-SetOf.is in
    (omega arith, down.0)

pub put_row-put_choice-requires : goal.put_row-put_choice-requires
put_row-put_choice-requires t c =
    (omega arith, down_as c.args.table.now c.args.of.0 c.args.row.now (Choice c.in-Choice.alternatives) c.requires.row.sound c.requires.row.found c.in-Choice.is)

pub put_row-put_tagged-requires : goal.put_row-put_tagged-requires
put_row-put_tagged-requires t c =
    let down = down_as c.args.table.now c.args.of.0 c.args.row.now (Tagged c.in-Tagged.class c.in-Tagged.number c.in-Tagged.explicit c.in-Tagged.inner) c.requires.row.sound c.requires.row.found c.in-Tagged.is in
    (omega arith, down.0)

pub put_choice-put_typed-requires : goal.put_choice-put_typed-requires
put_choice-put_typed-requires t c =
    let slot : slice_get c.args.alternatives.now c.in-Chosen.which ≡ Some c.in-Some.part.now = sym c.get.ensures ∙ ap option_copied c.in-Some.is in
    let lt : c.in-Some.part.now.inner.0 < c.args.of.0 = each_slot (λ m. m < c.args.of.0) c.args.alternatives.now c.in-Chosen.which c.in-Some.part.now c.requires.below slot in
    omega arith

pub put_parts-put_slot-requires : goal.put_parts-put_slot-requires
put_parts-put_slot-requires t c =
    let i = c.loop-index.index in
    let lp : i < length c.args.parts.now = omega (arith, c.min-count.ensures) in
    let lt : c.index-parts-index.result.inner.0 < c.args.of.0 = each_part (λ m. m < c.args.of.0) c.args.parts.now i c.index-parts-index.result c.requires.below lp c.index-parts-index.is in
    (omega arith, lt)

pub put_parts-loop-index-preserved : goal.put_parts-loop-index-preserved
put_parts-loop-index-preserved t c =
    let i = c.loop-index.index in
    let lp : i < length c.args.parts.now = omega (arith, c.min-count.ensures) in
    let lv : i < length c.args.values.now = omega (arith, c.min-count.ensures) in
    let did = c.in_ok-first.ensures in
    let cell = slot_cell (printed c.args.table.now) c.loop-index.first c.args.parts.now c.args.values.now i c.index-parts-index.result c.index-values-index.result lp lv c.index-parts-index.is c.index-values-index.is in
    rw (did.first) (goes_on _ _ _ _ _ _ c.loop-index.invariant cell did.text)

pub put_parts-returns : goal.put_parts-returns
put_parts-returns t c =
    ends _ _ _ c.loop-index.invariant (parts_done (printed c.args.table.now) c.loop-index.first c.args.parts.now c.args.values.now c.loop-index.index (omega (arith, c.min-count.ensures)))
