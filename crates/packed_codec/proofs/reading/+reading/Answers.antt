use Rattle.std.proofs.Common.{◌≡◌, ◌<◌, arith, sym, ap, ◌∙◌, Some}
use Rattle.std.specs.Prelude.{slice_get}
use Rattle.std.specs.Option.{option_copied}
use Rattle.std.proofs.lemmas.Option.{slice_get_within}
use Rattle.std.proofs.lemmas.Result.{err_from_is_err_and}
use Rattle.asn1_types.specs.declared.row.TypeRow.TheVariants.{Sequence, Set, SequenceOf, SetOf, Choice, Tagged}
use Rattle.asn1_types.proofs.Sound.{each_part, down_as}
use Rattle.asn1_types.proofs.FitLaws.{each_slot}
use Rattle.packed_codec.specs.Reading.{spot_of}
use Rattle.packed_codec.specs.Rules.{set_item_at, reads}
use Rattle.asn1_types.specs.Writing.{written}
use Rattle.packed_codec.proofs.Rows.{reads_at}
use Rattle.packed_codec.proofs.Loops.{items_go_on, items_fail, set_items_go_on, set_items_fail, goes_then}
use Rattle.packed_codec.proofs.reading.+reading.Goals as goal

pub value-returns-clause-gives : goal.value-returns-clause-gives
value-returns-clause-gives t c =
    rw (reads_at c.args.table.now c.row.ensures.sound c.args.of.0 c.row.result.now c.row.ensures.value) c.value_as.ensures.gives

pub choice-value-requires : goal.choice-value-requires
choice-value-requires t c =
    let slot : slice_get c.args.alternatives.now c.in_ok-which.which ≡ Some c.in-Some.part.now = sym c.get.ensures ∙ ap option_copied c.in-Some.is in
    let lt : c.in-Some.part.now.inner.0 < c.args.of.0 = each_slot (λ m. m < c.args.of.0) c.args.alternatives.now c.in_ok-which.which c.in-Some.part.now c.requires.below slot in
    (omega arith, (omega arith, omega (arith, c.in_ok-which.ensures.stops.whole)))

pub parts_of-part_of-requires : goal.parts_of-part_of-requires
parts_of-part_of-requires t c =
    let lt : c.part-item.result.inner.0 < c.args.of.0 = each_part (λ m. m < c.args.of.0) c.args.parts.now c.loop-part.part-index c.part-item.result c.requires.below c.loop-part-test.true c.part-item.is in
    (omega arith, record { below = lt; row = c.requires.row; whole = omega (arith, c.loop-part.invariant.onward.whole) })

pub items_of-returns-in_err-value-clause-gives : goal.items_of-returns-in_err-value-clause-gives
items_of-returns-in_err-value-clause-gives t c =
    let p = err_from_is_err_and c.from_residual.result c.from_residual.ensures.1 in
    rw (p.1, p.2) (items_fail _ (reads c.args.table.now c.args.inner.0) c.args.limit c.args.number c.loop-index._index c.loop-index.found.items (spot_of c.loop-index.spot) _ c.loop-index-test.true c.in_err-value.ensures.gives c.loop-index.invariant.so_far)

pub items_of-loop-index-preserved : goal.items_of-loop-index-preserved
items_of-loop-index-preserved t c = record {
  onward = goes_then c.loop-index.invariant.onward c.in_ok-value.ensures.stops;
  so_far = rw c.in_ok-push.ensures.items (items_go_on (reads c.args.table.now c.args.inner.0) c.args.limit c.args.number c.loop-index._index c.loop-index.found.items (spot_of c.loop-index.spot) c.in_ok-value.value (spot_of c.in_ok-value.next) _ c.loop-index-test.true c.in_ok-value.ensures.gives c.loop-index.invariant.so_far);
}

pub value_as-sequence-requires : goal.value_as-sequence-requires
value_as-sequence-requires t c =
    let lt = slice_get_within c.args.table.now c.args.of.0 c.args.row.now c.requires.row.found in
    let down = down_as c.args.table.now c.args.of.0 c.args.row.now (Sequence c.in-Sequence.parts) c.requires.row.sound c.requires.row.found c.in-Sequence.is in
    (omega arith, record { below = down; row = omega arith; whole = c.requires.whole })

pub value_as-sequence-requires-in-Set : goal.value_as-sequence-requires-in-Set
value_as-sequence-requires-in-Set t c =
    let lt = slice_get_within c.args.table.now c.args.of.0 c.args.row.now c.requires.row.found in
    let down = down_as c.args.table.now c.args.of.0 c.args.row.now (Set c.in-Set.parts) c.requires.row.sound c.requires.row.found c.in-Set.is in
    (omega arith, record { below = down; row = omega arith; whole = c.requires.whole })

pub value_as-choice-requires : goal.value_as-choice-requires
value_as-choice-requires t c =
    let lt = slice_get_within c.args.table.now c.args.of.0 c.args.row.now c.requires.row.found in
    let down = down_as c.args.table.now c.args.of.0 c.args.row.now (Choice c.in-Choice.alternatives) c.requires.row.sound c.requires.row.found c.in-Choice.is in
    (omega arith, record { below = down; row = omega arith; whole = c.requires.whole })

pub value_as-list-requires : goal.value_as-list-requires
value_as-list-requires t c =
    let lt = slice_get_within c.args.table.now c.args.of.0 c.args.row.now c.requires.row.found in
    let down = down_as c.args.table.now c.args.of.0 c.args.row.now (SequenceOf c.in-SequenceOf.inner) c.requires.row.sound c.requires.row.found c.in-SequenceOf.is in
    let below : c.in-SequenceOf.inner.0 < c.args.of.0 = down.0 in
    (omega arith, record { below = below; row = omega arith; whole = c.requires.whole })

pub value_as-set_of-requires : goal.value_as-set_of-requires
value_as-set_of-requires t c =
    let lt = slice_get_within c.args.table.now c.args.of.0 c.args.row.now c.requires.row.found in
    let down = down_as c.args.table.now c.args.of.0 c.args.row.now (SetOf c.in-SetOf.inner) c.requires.row.sound c.requires.row.found c.in-SetOf.is in
    let below : c.in-SetOf.inner.0 < c.args.of.0 = down.0 in
    (omega arith, record { below = below; row = omega arith; whole = c.requires.whole })

pub value_as-tagged-requires : goal.value_as-tagged-requires
value_as-tagged-requires t c =
    let lt = slice_get_within c.args.table.now c.args.of.0 c.args.row.now c.requires.row.found in
    let down = down_as c.args.table.now c.args.of.0 c.args.row.now (Tagged c.in-Tagged.class c.in-Tagged.number c.in-Tagged.explicit c.in-Tagged.inner) c.requires.row.sound c.requires.row.found c.in-Tagged.is in
    let below : c.in-Tagged.inner.0 < c.args.of.0 = down.0 in
    (omega arith, record { below = below; row = omega arith; whole = c.requires.whole })

pub set_items-returns-in_err-value-clause-gives : goal.set_items-returns-in_err-value-clause-gives
set_items-returns-in_err-value-clause-gives t c =
    let p = err_from_is_err_and c.from_residual.result c.from_residual.ensures.1 in
    rw (p.1, p.2) (set_items_fail _ (set_item_at (written c.args.table.now c.args.inner.0) (reads c.args.table.now c.args.inner.0)) c.args.limit c.args.number c.loop-index._index c.loop-index.found.items (spot_of c.loop-index.spot) _ c.loop-index-test.true (rw c.deref.ensures.value at c.in_err-value.ensures.gives) c.loop-index.invariant.so_far)

pub set_items-loop-index-preserved : goal.set_items-loop-index-preserved
set_items-loop-index-preserved t c = record {
  onward = goes_then c.loop-index.invariant.onward c.in_ok-value.ensures.stops;
  so_far = rw c.in_ok-push.ensures.items (set_items_go_on (set_item_at (written c.args.table.now c.args.inner.0) (reads c.args.table.now c.args.inner.0)) c.args.limit c.args.number c.loop-index._index c.loop-index.found.items (spot_of c.loop-index.spot) c.in_ok-value.value (spot_of c.in_ok-value.next) _ c.loop-index-test.true (rw c.deref.ensures.value at c.in_ok-value.ensures.gives) c.loop-index.invariant.so_far);
}
