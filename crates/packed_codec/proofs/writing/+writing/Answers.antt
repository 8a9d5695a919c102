use Rattle.std.proofs.Common.{◌≡◌, ◌<◌, [], length, sym, ap, ◌∙◌, arith, Some}
use Rattle.std.specs.Prelude.{slice_get}
use Rattle.std.specs.Option.{option_copied}
use Rattle.asn1_types.specs.declared.row.TypeRow.TheVariants.{Sequence, Set, SequenceOf, SetOf, Choice, Tagged}
use Rattle.asn1_types.specs.ValueView.{parts_of, values_of, value_of}
use Rattle.asn1_types.proofs.Sound.{each_part, down_as, choice_few}
use Rattle.asn1_types.proofs.FitLaws.{each_slot, not_within, false_not}
use Rattle.packed_codec.specs.Writing.{packed, parts_written, values_written}
use Rattle.packed_codec.proofs.Room.{nothing, as_text, unfilled, room_next, fill, filled, both_as, room_behind}
use Rattle.packed_codec.proofs.WriteLaws.{packed_at, packed_past, parts_cell, parts_done, values_cell, values_done, room_as}
use Rattle.packed_codec.proofs.Texts.{choice_text, list_text, plain_text, marked_text}
use Rattle.packed_codec.proofs.writing.+writing.Goals as goal

-- ---- down the table

pub put_value-put_row-requires : goal.put_value-put_row-requires
put_value-put_row-requires t c =
    (omega arith, (record { found = c.row.ensures.value; sound = c.row.ensures.sound }, rw (← packed_at c.args.table.now c.row.ensures.sound c.args.of.0 c.row.result.now c.row.ensures.value) c.requires))

pub put_value-returns-then-has : goal.put_value-returns-then-has
put_value-returns-then-has t c =
    rw (packed_at c.args.table.now c.row.ensures.sound c.args.of.0 c.row.result.now c.row.ensures.value) c.put_row.ensures

pub put_value-returns-else-has : goal.put_value-returns-else-has
put_value-returns-else-has t c =
    as_text [] (packed c.args.table.now c.args.of.0 c.args.value.now) c.args.at c.args.at c.args.out.now c.args.out.now
    (sym (packed_past c.args.table.now c.args.of.0 c.args.value.now (not_within (length c.args.table.now) c.args.of.0 (λ lt. false_not (sym c.if-has.false ∙ c.has.ensures.1 lt)))))
    (nothing c.args.at c.args.out.now)

pub put_row-put_sequence-requires : goal.put_row-put_sequence-requires
put_row-put_sequence-requires t c =
    let down = down_as c.args.table.now c.args.of.0 c.args.row.now (Sequence c.in-Sequence.parts) c.requires.row.sound c.requires.row.found c.in-Sequence.is in
    (omega arith, (down, room_as c.args.table.now c.args.at (length c.args.out.now) c.args.value.now c.args.row.now (Sequence c.in-Sequence.parts) c.in-Sequence.is c.requires.room))

pub put_row-put_sequence-requires-in-Set : goal.put_row-put_sequence-requires-in-Set
put_row-put_sequence-requires-in-Set t c =
    let down = down_as c.args.table.now c.args.of.0 c.args.row.now (Set c.in-Set.parts) c.requires.row.sound c.requires.row.found c.in-Set.is in
    (omega arith, (down, room_as c.args.table.now c.args.at (length c.args.out.now) c.args.value.now c.args.row.now (Set c.in-Set.parts) c.in-Set.is c.requires.room))

pub put_row-put_list-requires : goal.put_row-put_list-requires
put_row-put_list-requires t c =
    let down = down_as c.args.table.now c.args.of.0 c.args.row.now (SequenceOf c.in-SequenceOf.inner) c.requires.row.sound c.requires.row.found c.in-SequenceOf.is in
    let below : c.in-SequenceOf.inner.0 < c.args.of.0 = down.0 in
    (omega arith, (below, room_as c.args.table.now c.args.at (length c.args.out.now) c.args.value.now c.args.row.now (SequenceOf c.in-SequenceOf.inner) c.in-SequenceOf.is c.requires.room))

pub put_row-put_list-requires-in-SetOf : goal.put_row-put_list-requires-in-SetOf
put_row-put_list-requires-in-SetOf t c =
    let down = down_as c.args.table.now c.args.of.0 c.args.row.now (SetOf c.in-SetOf.inner) c.requires.row.sound c.requires.row.found c.in-SetOf.is in
    let below : c.in-SetOf.inner.0 < c.args.of.0 = down.0 in
    (omega arith, (below, room_as c.args.table.now c.args.at (length c.args.out.now) c.args.value.now c.args.row.now (SetOf c.in-SetOf.inner) c.in-SetOf.is c.requires.room))

pub put_row-put_choice-requires : goal.put_row-put_choice-requires
put_row-put_choice-requires t c =
    let down = down_as c.args.table.now c.args.of.0 c.args.row.now (Choice c.in-Choice.alternatives) c.requires.row.sound c.requires.row.found c.in-Choice.is in
    let few = choice_few c.args.table.now c.args.of.0 c.args.row.now c.in-Choice.alternatives c.requires.row.sound c.requires.row.found c.in-Choice.is in
    (omega arith, (down, (few, room_as c.args.table.now c.args.at (length c.args.out.now) c.args.value.now c.args.row.now (Choice c.in-Choice.alternatives) c.in-Choice.is c.requires.room)))

pub put_row-put_value-requires : goal.put_row-put_value-requires
put_row-put_value-requires t c =
    let down = down_as c.args.table.now c.args.of.0 c.args.row.now (Tagged c.in-Tagged.class c.in-Tagged.number c.in-Tagged.explicit c.in-Tagged.inner) c.requires.row.sound c.requires.row.found c.in-Tagged.is in
    let below : c.in-Tagged.inner.0 < c.args.of.0 = down.0 in
    (omega arith, room_as c.args.table.now c.args.at (length c.args.out.now) c.args.value.now c.args.row.now (Tagged c.in-Tagged.class c.in-Tagged.number c.in-Tagged.explicit c.in-Tagged.inner) c.in-Tagged.is c.requires.room)

-- ---- parts and items

pub put_parts-loop-index-init : goal.put_parts-loop-index-init
put_parts-loop-index-init t c = unfilled (parts_written (packed c.args.table.now) c.args.parts.now (parts_of c.args.values.now)) c.args.at c.args.out.now

pub put_parts-put_part-behind-requires : goal.put_parts-put_part-behind-requires
put_parts-put_part-behind-requires t c =
    let i = c.loop-index.index in
    let lp : i < length c.args.parts.now = omega (arith, c.min-count.ensures) in
    let lv : i < length c.args.values.now = omega (arith, c.min-count.ensures) in
    let lt : c.index-parts-index.result.inner.0 < c.args.of.0 = each_part (λ m. m < c.args.of.0) c.args.parts.now i c.index-parts-index.result c.requires.below lp c.index-parts-index.is in
    (omega arith, (lt, room_next _ _ _ _ c.args.at c.loop-index.behind c.args.out.now c.loop-index.out (parts_cell (packed c.args.table.now) c.args.parts.now c.args.values.now i c.index-parts-index.result c.index-values-index.result lp lv c.index-parts-index.is c.index-values-index.is) c.loop-index.invariant c.requires.room))

pub put_parts-loop-index-preserved : goal.put_parts-loop-index-preserved
put_parts-loop-index-preserved t c =
    let i = c.loop-index.index in
    let lp : i < length c.args.parts.now = omega (arith, c.min-count.ensures) in
    let lv : i < length c.args.values.now = omega (arith, c.min-count.ensures) in
    fill _ _ _ _ c.args.at c.loop-index.behind c.put_part-behind.result c.args.out.now c.loop-index.out c.put_part-behind.new.out (parts_cell (packed c.args.table.now) c.args.parts.now c.args.values.now i c.index-parts-index.result c.index-values-index.result lp lv c.index-parts-index.is c.index-values-index.is) c.requires.room c.loop-index.invariant c.put_part-behind.ensures

pub put_parts-returns : goal.put_parts-returns
put_parts-returns t c =
    filled _ _ c.args.at c.loop-index.behind c.args.out.now c.loop-index.out (parts_done (packed c.args.table.now) c.args.parts.now c.args.values.now c.loop-index.index (omega (arith, c.min-count.ensures))) c.loop-index.invariant

pub put_items-loop-value-init : goal.put_items-loop-value-init
put_items-loop-value-init t c = unfilled (values_written (packed c.args.table.now c.args.inner.0) (values_of c.args.values.now)) c.args.at c.args.out.now

pub put_items-put_value-behind-requires : goal.put_items-put_value-behind-requires
put_items-put_value-behind-requires t c =
    (omega arith, room_next _ _ _ _ c.args.at c.loop-value.behind c.args.out.now c.loop-value.out (values_cell (packed c.args.table.now c.args.inner.0) c.args.values.now c.loop-value.value-index c.value-item.result c.loop-value-test.true c.value-item.is) c.loop-value.invariant c.requires.room)

pub put_items-loop-value-preserved : goal.put_items-loop-value-preserved
put_items-loop-value-preserved t c =
    fill _ _ _ _ c.args.at c.loop-value.behind c.put_value-behind.result c.args.out.now c.loop-value.out c.put_value-behind.new.out (values_cell (packed c.args.table.now c.args.inner.0) c.args.values.now c.loop-value.value-index c.value-item.result c.loop-value-test.true c.value-item.is) c.requires.room c.loop-value.invariant c.put_value-behind.ensures

pub put_items-returns : goal.put_items-returns
put_items-returns t c =
    filled _ _ c.args.at c.loop-value.behind c.args.out.now c.loop-value.out (values_done (packed c.args.table.now c.args.inner.0) c.args.values.now c.loop-value.value-index (omega arith)) c.loop-value.invariant

-- ---- what stands before inner values

pub put_choice-put_value-requires : goal.put_choice-put_value-requires
put_choice-put_value-requires t c =
    let slot : slice_get c.args.alternatives.now c.in-Chosen.which ≡ Some c.in-Some.part.now = sym c.get.ensures ∙ ap option_copied c.in-Some.is in
    let lt : c.in-Some.part.now.inner.0 < c.args.of.0 = each_slot (λ m. m < c.args.of.0) c.args.alternatives.now c.in-Chosen.which c.in-Some.part.now c.requires.below slot in
    let whole = choice_text (packed c.args.table.now) c.args.alternatives.now c.in-Chosen.which c.in-Some.part.now c.in-Chosen.value.value c.deref.result.now c.args.value.now (ap value_of (sym c.in-Chosen.is) ∙ c.value.view_is) slot c.deref.ensures in
    (omega arith, room_behind _ _ _ c.args.at c.put_octet-behind.result c.args.out.now c.put_octet-behind.new.out whole c.requires.room c.put_octet-behind.ensures)

pub put_choice-returns-in-Some : goal.put_choice-returns-in-Some
put_choice-returns-in-Some t c =
    let slot : slice_get c.args.alternatives.now c.in-Chosen.which ≡ Some c.in-Some.part.now = sym c.get.ensures ∙ ap option_copied c.in-Some.is in
    let whole = choice_text (packed c.args.table.now) c.args.alternatives.now c.in-Chosen.which c.in-Some.part.now c.in-Chosen.value.value c.deref.result.now c.args.value.now (ap value_of (sym c.in-Chosen.is) ∙ c.value.view_is) slot c.deref.ensures in
    both_as _ _ _ c.args.at c.put_octet-behind.result c.put_value.result c.args.out.now c.put_octet-behind.new.out c.put_value.new.out whole c.requires.room c.put_octet-behind.ensures c.put_value.ensures

pub put_list-put_items-requires : goal.put_list-put_items-requires
put_list-put_items-requires t c =
    let whole = list_text (packed c.args.table.now c.args.inner.0) c.in-List.values.items c.deref.result.now c.len.result c.args.value.now (ap value_of (sym c.in-List.is) ∙ c.value.view_is) c.deref.ensures.value (c.len.ensures ∙ sym c.deref.ensures.len ∙ ap length c.deref.ensures.value) in
    (omega arith, (c.requires.below, room_behind _ _ _ c.args.at c.put_count-behind.result c.args.out.now c.put_count-behind.new.out whole c.requires.room c.put_count-behind.ensures))

pub put_list-returns-in-List : goal.put_list-returns-in-List
put_list-returns-in-List t c =
    let whole = list_text (packed c.args.table.now c.args.inner.0) c.in-List.values.items c.deref.result.now c.len.result c.args.value.now (ap value_of (sym c.in-List.is) ∙ c.value.view_is) c.deref.ensures.value (c.len.ensures ∙ sym c.deref.ensures.len ∙ ap length c.deref.ensures.value) in
    both_as _ _ _ c.args.at c.put_count-behind.result c.put_items.result c.args.out.now c.put_count-behind.new.out c.put_items.new.out whole c.requires.room c.put_count-behind.ensures c.put_items.ensures

pub put_part-put_value-requires : goal.put_part-put_value-requires
put_part-put_value-requires t c =
    let whole = plain_text (packed c.args.table.now) c.args.part.now c.args.value.now c.in-Some.value (sym c.may_be_absent.ensures ∙ c.if-not-may_be_absent.true) c.in-Some.is in
    (omega arith, rw (← whole) c.requires.room)

pub put_part-returns-else-not-may_be_absent : goal.put_part-returns-else-not-may_be_absent
put_part-returns-else-not-may_be_absent t c =
    let whole = marked_text (packed c.args.table.now) c.args.part.now c.args.value.now c.in-Some.value (sym c.may_be_absent.ensures ∙ c.if-not-may_be_absent.false) c.in-Some.is in
    both_as _ _ _ c.args.at c.put_octet-behind.result c.put_value-in-Some.result c.args.out.now c.put_octet-behind.new.out c.put_value-in-Some.new.out whole c.requires.room c.put_octet-behind.ensures c.put_value-in-Some.ensures
