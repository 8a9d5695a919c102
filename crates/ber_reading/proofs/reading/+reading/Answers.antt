use Rattle.std.proofs.Common.{◌≡◌, ◌≤◌, ◌<◌, ◌+◌, ◌-◌, take, drop, ◌++◌, ◌∷◌, [], suc, true, false, Some, Ok, refl, sym, ap, ◌∙◌, subst, arith, rules, length}
use Rattle.std.specs.Prelude.{List, Option, slice_set}
use Rattle.std.proofs.lemmas.Option.{slice_get_within}
use Rattle.std.proofs.lemmas.List.{take_rest, length-drop, drop-drop}
use Rattle.asn1_types.specs.Value.{Value}
use Rattle.osi_base.specs.declared.layer_words.Kind.TheVariants.{Extra}
use Rattle.asn1_types.specs.declared.row.TypeRow.TheVariants.{Sequence, SequenceOf, SetOf, Set, Choice, Tagged}
use Rattle.asn1_types.specs.declared.row.Part.{Part}
use Rattle.asn1_types.specs.Rows.{begins}
use Rattle.ber_reading.specs.Parts.{parts_from, parts_behind}
use Rattle.asn1_types.proofs.Slots.{empty_length}
use Rattle.asn1_types.proofs.Sound.{each_part, down_as, choice_few, later_parts}
use Rattle.ber_spelling.specs.Reading.{opened_of, spot_of, ahead_of, LiesIn}
use Rattle.ber_spelling.specs.Rules.{items_at, list_item_at, list_done, set_item_at, set_of_done, reads, slot_at, set_done, is_free, is_filled, plain, bare}
use Rattle.ber_reading.proofs.Slots.{set_length, slot_taken, slot_fails, slot_gives, set_full, set_lacks, turns_lack, late_fails}
use Rattle.ber_reading.proofs.Rows.{reads_at}
use Rattle.ber_reading.proofs.ShortParts.{reads_it, lower}
use Rattle.ber_reading.specs.ShortParts.{integer_opened, behind}
use Rattle.std.specs.Vec.{vec_len}
use Rattle.std.proofs.lemmas.Int.{to_z-of_z}
use mir.Syntax.{w64}
use mir.Val.{SFits}
use Rattle.asn1_types.specs.Value as tree
use Rattle.asn1_types.specs.ValueView.{parts_of}
use Rattle.asn1_types.specs.Writing.{written}
use Rattle.asn1_types.specs.Tags.{rank}
use Rattle.ber_spelling.proofs.Loops.{goes_then}
use Rattle.ber_reading.proofs.PartsFrom.{part_fails, part_goes_on, end_fails, end_gives, sequence_fails, sequence_gives}
use Rattle.ber_spelling.proofs.Steps.{FailsWith-bind}
use Rattle.ber_spelling.proofs.Turns.{bind_is, look_fails, step_fails, step_goes, turns_end, no_turns}
use Rattle.ber_reading.proofs.reading.+reading.Goals as goal

pub choice-begins-requires : goal.choice-begins-requires
choice-begins-requires t c =
    let lt : c.index-alternatives-which.result.inner.0 < c.args.of.0 = each_part (λ m. m < c.args.of.0) c.args.alternatives.now c.loop-which.which c.index-alternatives-which.result c.requires.reads.below c.loop-which-test.true c.index-alternatives-which.is in
    omega arith

pub choice-value-requires : goal.choice-value-requires
choice-value-requires t c =
    let lt : c.index-alternatives-which.result.inner.0 < c.args.of.0 = each_part (λ m. m < c.args.of.0) c.args.alternatives.now c.loop-which.which c.index-alternatives-which.result c.requires.reads.below c.loop-which-test.true c.index-alternatives-which.is in
    (omega arith, (omega arith, record { whole = c.requires.reads.whole; start = c.requires.start }))

pub sequence-returns-in_err-found-clause-gives : goal.sequence-returns-in_err-found-clause-gives
sequence-returns-in_err-found-clause-gives t c =
    let h = sequence_fails (begins c.args.table.now) (reads c.args.table.now) c.args.parts.now c.args.tag c.args.scope.now c.in_ok-inside.inside (opened_of c.args.opened.now) (spot_of c.args.spot) (spot_of c.in_ok-inside.spot) _ c.in_ok-expect_tag.ensures.gives c.in_ok-inside.ensures.gives c.in_err-found.field-0.0 (rw c.as_slice.ensures at c.in_err-found.ensures.gives) in
    search rules

pub sequence-returns-clause-gives : goal.sequence-returns-clause-gives
sequence-returns-clause-gives t c =
    sequence_gives (begins c.args.table.now) (reads c.args.table.now) c.args.parts.now c.args.tag c.args.scope.now c.in_ok-inside.inside (opened_of c.args.opened.now) (spot_of c.args.spot) (spot_of c.in_ok-inside.spot) _ c.in_ok-expect_tag.ensures.gives c.in_ok-inside.ensures.gives c.in_ok-found.found.items (spot_of c.in_ok-found.after) (rw c.as_slice.ensures at c.in_ok-found.ensures.gives)

pub tagged_choice-choice-requires : goal.tagged_choice-choice-requires
tagged_choice-choice-requires t c =
    (omega arith, (record { below = rw c.as_slice.ensures c.requires.reads.below; row = c.requires.reads.row; whole = omega (arith, c.in_ok-inside.ensures.onward.whole) }, (rw c.as_slice.ensures c.requires.few, c.in_ok-inside.ensures.stops)))

pub value-returns-clause-gives : goal.value-returns-clause-gives
value-returns-clause-gives t c =
    rw (reads_at c.args.table.now c.row-row.ensures.sound c.args.of.0 c.row-row.result.now c.row-row.ensures.value) c.value_as.ensures.gives

pub value_as-sequence-requires : goal.value_as-sequence-requires
value_as-sequence-requires t c =
    let lt = slice_get_within c.args.table.now c.args.of.0 c.args.row.now c.requires.row.found in
    let down = down_as c.args.table.now c.args.of.0 c.args.row.now (Sequence c.in-Sequence.parts) c.requires.row.sound c.requires.row.found c.in-Sequence.is in
    (omega arith, record { below = down; row = omega arith; whole = c.requires.behind.whole })

pub value_as-choice_under-requires : goal.value_as-choice_under-requires
value_as-choice_under-requires t c =
    let lt = slice_get_within c.args.table.now c.args.of.0 c.args.row.now c.requires.row.found in
    let down = down_as c.args.table.now c.args.of.0 c.args.row.now (Choice c.in-Choice.alternatives) c.requires.row.sound c.requires.row.found c.in-Choice.is in
    let few = choice_few c.args.table.now c.args.of.0 c.args.row.now c.in-Choice.alternatives c.requires.row.sound c.requires.row.found c.in-Choice.is in
    (omega arith, (record { below = down; row = omega arith; whole = c.requires.behind.whole }, (omega arith, c.requires.behind.start)))

pub choice_under-choice-requires : goal.choice_under-choice-requires
choice_under-choice-requires t c =
    (omega arith, (record { below = rw c.as_slice-alternatives.ensures c.requires.reads.below; row = c.requires.reads.row; whole = c.requires.reads.whole }, (rw c.as_slice-alternatives.ensures c.requires.few, c.requires.start)))

pub choice_under-tagged_choice-requires : goal.choice_under-tagged_choice-requires
choice_under-tagged_choice-requires t c = (omega arith, (c.requires.reads, c.requires.few))

pub value_as-tagged-requires : goal.value_as-tagged-requires
value_as-tagged-requires t c =
    let lt = slice_get_within c.args.table.now c.args.of.0 c.args.row.now c.requires.row.found in
    let down = down_as c.args.table.now c.args.of.0 c.args.row.now (Tagged c.in-Tagged.class c.in-Tagged.number c.in-Tagged.explicit c.in-Tagged.inner) c.requires.row.sound c.requires.row.found c.in-Tagged.is in
    let below : c.in-Tagged.inner.0 < c.args.of.0 = down.0 in
    (omega arith, record { below = below; row = omega arith; whole = c.requires.behind.whole })

pub value_as-value-requires : goal.value_as-value-requires
value_as-value-requires t c =
    let lt = slice_get_within c.args.table.now c.args.of.0 c.args.row.now c.requires.row.found in
    let down = down_as c.args.table.now c.args.of.0 c.args.row.now (Tagged c.in-Tagged.class c.in-Tagged.number c.in-Tagged.explicit c.in-Tagged.inner) c.requires.row.sound c.requires.row.found c.in-Tagged.is in
    let below : c.in-Tagged.inner.0 < c.args.of.0 = down.0 in
    (omega arith, (omega arith, c.requires.behind))

pub value_as-list-requires : goal.value_as-list-requires
value_as-list-requires t c =
    let lt = slice_get_within c.args.table.now c.args.of.0 c.args.row.now c.requires.row.found in
    let down = down_as c.args.table.now c.args.of.0 c.args.row.now (SequenceOf c.in-SequenceOf.inner) c.requires.row.sound c.requires.row.found c.in-SequenceOf.is in
    let below : c.in-SequenceOf.inner.0 < c.args.of.0 = down.0 in
    (omega arith, record { below = below; row = omega arith; whole = c.requires.behind.whole })

pub items-returns-in_err-after-clause-gives : goal.items-returns-in_err-after-clause-gives
items-returns-in_err-after-clause-gives t c =
    let h = look_fails (list_item_at (reads c.args.table.now c.args.inner.0)) list_done c.in_err-after.field-0.0 (length c.args.spot.rest.now + 1 - c.loop-turn._turn) c.loop-turn.found.items c.args.scope.now (spot_of c.loop-turn.spot) _ (omega arith) c.loop-turn.invariant.so_far c.in_err-after.ensures.gives in
    search rules

pub items-returns-in-Ended-clause-gives : goal.items-returns-in-Ended-clause-gives
items-returns-in-Ended-clause-gives t c =
    turns_end (list_item_at (reads c.args.table.now c.args.inner.0)) list_done c.loop-turn.found.items _ c.args.scope.now (spot_of c.loop-turn.spot) (length c.args.spot.rest.now + 1 - c.loop-turn._turn) c.in-Ended.place (spot_of c.in-Ended.after) _ (omega arith) c.loop-turn.invariant.so_far
    (c.in_ok-after.ensures.gives ∙ ap (λ a. Ok (ahead_of a)) c.in-Ended.is) refl

pub items-returns-in_err-value-in-Begun-clause-gives : goal.items-returns-in_err-value-in-Begun-clause-gives
items-returns-in_err-value-in-Begun-clause-gives t c =
    let h = step_fails (list_item_at (reads c.args.table.now c.args.inner.0)) list_done c.in_err-value-in-Begun.field-0.0 (length c.args.spot.rest.now + 1 - c.loop-turn._turn) c.loop-turn.found.items c.args.scope.now (spot_of c.loop-turn.spot) (opened_of c.in-Begun.opened) (spot_of c.in-Begun.after) _ (omega arith) c.loop-turn.invariant.so_far
    (c.in_ok-after.ensures.gives ∙ ap (λ a. Ok (ahead_of a)) c.in-Begun.is) (FailsWith-bind c.in_err-value-in-Begun.field-0.0 (reads c.args.table.now c.args.inner.0 plain c.args.scope.now (opened_of c.in-Begun.opened) (spot_of c.in-Begun.after)) _ c.in_err-value-in-Begun.ensures.gives) in
    search rules

pub items-loop-turn-preserved : goal.items-loop-turn-preserved
items-loop-turn-preserved t c =
    let opens = subst (LiesIn c.loop-turn.spot.place (length c.loop-turn.spot.rest.now)) c.in-Begun.is c.in_ok-after.ensures.stops in
    let less : length c.args.spot.rest.now + 1 - c.loop-turn._turn - 1 ≡ length c.args.spot.rest.now + 1 - (c.loop-turn._turn + 1) = omega arith in
    let more = c.loop-turn.found.items ++ c.in_ok-value-in-Begun.value ∷ [] in
    let goes = step_goes (list_item_at (reads c.args.table.now c.args.inner.0)) list_done (length c.args.spot.rest.now + 1 - c.loop-turn._turn) c.loop-turn.found.items more c.args.scope.now (spot_of c.loop-turn.spot) (opened_of c.in-Begun.opened) (spot_of c.in-Begun.after) (spot_of c.in_ok-value-in-Begun.next) _ (omega arith) c.loop-turn.invariant.so_far
    (c.in_ok-after.ensures.gives ∙ ap (λ a. Ok (ahead_of a)) c.in-Begun.is)
    (bind_is (reads c.args.table.now c.args.inner.0 plain c.args.scope.now (opened_of c.in-Begun.opened) (spot_of c.in-Begun.after)) _ (c.in_ok-value-in-Begun.value, spot_of c.in_ok-value-in-Begun.next) c.in_ok-value-in-Begun.ensures.gives) in
    record {
      onward = goes_then c.loop-turn.invariant.onward (goes_then opens.behind c.in_ok-value-in-Begun.ensures.stops);
      so_far = ap (λ found. items_at (list_item_at (reads c.args.table.now c.args.inner.0)) list_done (length c.args.spot.rest.now + 1 - (c.loop-turn._turn + 1)) found c.args.scope.now (spot_of c.in_ok-value-in-Begun.next)) c.in_ok-push-in-Begun.ensures.items
          ∙ ap (λ k. items_at (list_item_at (reads c.args.table.now c.args.inner.0)) list_done k more c.args.scope.now (spot_of c.in_ok-value-in-Begun.next)) (sym less) ∙ goes;
    }

pub items-returns-clause-gives : goal.items-returns-clause-gives
items-returns-clause-gives t c =
    no_turns (list_item_at (reads c.args.table.now c.args.inner.0)) list_done (length c.args.spot.rest.now + 1 - c.loop-turn._turn) c.loop-turn.found.items c.args.scope.now (spot_of c.loop-turn.spot) _ (omega arith) c.loop-turn.invariant.so_far

-- ---- SET OF

pub value_as-set_of-requires : goal.value_as-set_of-requires
value_as-set_of-requires t c =
    let lt = slice_get_within c.args.table.now c.args.of.0 c.args.row.now c.requires.row.found in
    let down = down_as c.args.table.now c.args.of.0 c.args.row.now (SetOf c.in-SetOf.inner) c.requires.row.sound c.requires.row.found c.in-SetOf.is in
    let below : c.in-SetOf.inner.0 < c.args.of.0 = down.0 in
    (omega arith, record { below = below; row = omega arith; whole = c.requires.behind.whole })

pub set_items-returns-in_err-after-clause-gives : goal.set_items-returns-in_err-after-clause-gives
set_items-returns-in_err-after-clause-gives t c =
    let h = look_fails (set_item_at (written c.args.table.now c.args.inner.0) (reads c.args.table.now c.args.inner.0)) (set_of_done (written c.args.table.now c.args.inner.0)) c.in_err-after.field-0.0 (length c.args.spot.rest.now + 1 - c.loop-turn._turn) c.loop-turn.found.items c.args.scope.now (spot_of c.loop-turn.spot) _ (omega arith) c.loop-turn.invariant.so_far c.in_err-after.ensures.gives in
    search rules

pub set_items-returns-in-Ended-clause-gives : goal.set_items-returns-in-Ended-clause-gives
set_items-returns-in-Ended-clause-gives t c =
    turns_end (set_item_at (written c.args.table.now c.args.inner.0) (reads c.args.table.now c.args.inner.0)) (set_of_done (written c.args.table.now c.args.inner.0)) c.loop-turn.found.items _ c.args.scope.now (spot_of c.loop-turn.spot) (length c.args.spot.rest.now + 1 - c.loop-turn._turn) c.in-Ended.place (spot_of c.in-Ended.after) _ (omega arith) c.loop-turn.invariant.so_far
    (c.in_ok-after.ensures.gives ∙ ap (λ a. Ok (ahead_of a)) c.in-Ended.is) refl

pub set_items-returns-in_err-item-in-Begun-clause-gives : goal.set_items-returns-in_err-item-in-Begun-clause-gives
set_items-returns-in_err-item-in-Begun-clause-gives t c =
    let h = step_fails (set_item_at (written c.args.table.now c.args.inner.0) (reads c.args.table.now c.args.inner.0)) (set_of_done (written c.args.table.now c.args.inner.0)) c.in_err-item-in-Begun.field-0.0 (length c.args.spot.rest.now + 1 - c.loop-turn._turn) c.loop-turn.found.items c.args.scope.now (spot_of c.loop-turn.spot) (opened_of c.in-Begun.opened) (spot_of c.in-Begun.after) _ (omega arith) c.loop-turn.invariant.so_far
    (c.in_ok-after.ensures.gives ∙ ap (λ a. Ok (ahead_of a)) c.in-Begun.is) (rw c.deref.ensures.value at c.in_err-item-in-Begun.ensures.gives) in
    search rules

pub set_items-loop-turn-preserved : goal.set_items-loop-turn-preserved
set_items-loop-turn-preserved t c =
    let opens = subst (LiesIn c.loop-turn.spot.place (length c.loop-turn.spot.rest.now)) c.in-Begun.is c.in_ok-after.ensures.stops in
    let less : length c.args.spot.rest.now + 1 - c.loop-turn._turn - 1 ≡ length c.args.spot.rest.now + 1 - (c.loop-turn._turn + 1) = omega arith in
    let more = c.loop-turn.found.items ++ c.in_ok-item-in-Begun.item.0 ∷ [] in
    let goes = step_goes (set_item_at (written c.args.table.now c.args.inner.0) (reads c.args.table.now c.args.inner.0)) (set_of_done (written c.args.table.now c.args.inner.0)) (length c.args.spot.rest.now + 1 - c.loop-turn._turn) c.loop-turn.found.items more c.args.scope.now (spot_of c.loop-turn.spot) (opened_of c.in-Begun.opened) (spot_of c.in-Begun.after) (spot_of c.in_ok-item-in-Begun.item.1) _ (omega arith) c.loop-turn.invariant.so_far
    (c.in_ok-after.ensures.gives ∙ ap (λ a. Ok (ahead_of a)) c.in-Begun.is)
    (rw c.deref.ensures.value at c.in_ok-item-in-Begun.ensures.gives) in
    record {
      onward = goes_then c.loop-turn.invariant.onward (goes_then opens.behind c.in_ok-item-in-Begun.ensures.stops);
      so_far = ap (λ found. items_at (set_item_at (written c.args.table.now c.args.inner.0) (reads c.args.table.now c.args.inner.0)) (set_of_done (written c.args.table.now c.args.inner.0)) (length c.args.spot.rest.now + 1 - (c.loop-turn._turn + 1)) found c.args.scope.now (spot_of c.in_ok-item-in-Begun.item.1)) c.in_ok-push-in-Begun.ensures.items
          ∙ ap (λ k. items_at (set_item_at (written c.args.table.now c.args.inner.0) (reads c.args.table.now c.args.inner.0)) (set_of_done (written c.args.table.now c.args.inner.0)) k more c.args.scope.now (spot_of c.in_ok-item-in-Begun.item.1)) (sym less) ∙ goes;
    }

pub set_items-returns-clause-gives : goal.set_items-returns-clause-gives
set_items-returns-clause-gives t c =
    no_turns (set_item_at (written c.args.table.now c.args.inner.0) (reads c.args.table.now c.args.inner.0)) (set_of_done (written c.args.table.now c.args.inner.0)) (length c.args.spot.rest.now + 1 - c.loop-turn._turn) c.loop-turn.found.items c.args.scope.now (spot_of c.loop-turn.spot) _ (omega arith) c.loop-turn.invariant.so_far

-- ---- SET

pub value_as-set-requires : goal.value_as-set-requires
value_as-set-requires t c =
    let lt = slice_get_within c.args.table.now c.args.of.0 c.args.row.now c.requires.row.found in
    let down = down_as c.args.table.now c.args.of.0 c.args.row.now (Set c.in-Set.parts) c.requires.row.sound c.requires.row.found c.in-Set.is in
    (omega arith, record { below = down; row = omega arith; whole = c.requires.behind.whole })

pub slot-begins-requires : goal.slot-begins-requires
slot-begins-requires t c =
    let lt : c.index-parts-which.result.inner.0 < c.args.of.0 = each_part (λ m. m < c.args.of.0) c.args.parts.now c.loop-which.which c.index-parts-which.result c.requires.reads.below c.loop-which-test.true c.index-parts-which.is in
    omega arith

pub slot-ordered-requires : goal.slot-ordered-requires
slot-ordered-requires t c =
    let lt : c.index-parts-which.result.inner.0 < c.args.of.0 = each_part (λ m. m < c.args.of.0) c.args.parts.now c.loop-which.which c.index-parts-which.result c.requires.reads.below c.loop-which-test.true c.index-parts-which.is in
    (omega arith, (record { below = lt; row = c.requires.reads.row; whole = c.requires.reads.whole }, c.requires.start))

pub slot-returns-then-not-is_free-clause-gives : goal.slot-returns-then-not-is_free-clause-gives
slot-returns-then-not-is_free-clause-gives t c =
    let b : begins c.args.table.now c.index-parts-which.result.inner.0 c.args.opened.now.class c.args.opened.now.number ≡ true = cc in
    let taken : is_free (Some c.index-found-which.result) ≡ false = cc in
    let more : c.loop-which.which < length c.args.found.now = omega (arith, c.requires.slots, c.loop-which-test.true) in
    late_fails c.late.result (reads c.args.table.now c.index-parts-which.result.inner.0 (bare c.index-parts-which.result.default)) Extra c.args.scope.now (opened_of c.args.opened.now) (spot_of c.args.spot) _ (slot_taken (begins c.args.table.now) (reads c.args.table.now) c.args.parts.now c.loop-which.which c.index-parts-which.result c.index-found-which.result (record { found = c.args.found.now; least = c.args.least }) c.args.scope.now (opened_of c.args.opened.now) (spot_of c.args.spot) _
    c.loop-which-test.true c.index-parts-which.is b more c.index-found-which.is taken c.loop-which.invariant) c.late.ensures

pub slot-returns-in_err-value-clause-gives : goal.slot-returns-in_err-value-clause-gives
slot-returns-in_err-value-clause-gives t c =
    let b : begins c.args.table.now c.index-parts-which.result.inner.0 c.args.opened.now.class c.args.opened.now.number ≡ true = cc in
    let free : is_free (Some c.index-found-which.result) ≡ true = cc in
    let more : c.loop-which.which < length c.args.found.now = omega (arith, c.requires.slots, c.loop-which-test.true) in
    let h = slot_fails (begins c.args.table.now) (reads c.args.table.now) c.in_err-value.field-0.0 c.args.parts.now c.loop-which.which c.index-parts-which.result c.index-found-which.result (record { found = c.args.found.now; least = c.args.least }) c.args.scope.now (opened_of c.args.opened.now) (spot_of c.args.spot) _
    c.loop-which-test.true c.index-parts-which.is b more c.index-found-which.is free c.loop-which.invariant c.in_err-value.ensures.gives in
    search rules

pub slot-returns-then-begins-clause-gives : goal.slot-returns-then-begins-clause-gives
slot-returns-then-begins-clause-gives t c =
    let b : begins c.args.table.now c.index-parts-which.result.inner.0 c.args.opened.now.class c.args.opened.now.number ≡ true = cc in
    let free : is_free (Some c.index-found-which.result) ≡ true = cc in
    let more : c.loop-which.which < length c.args.found.now = omega (arith, c.requires.slots, c.loop-which-test.true) in
    slot_gives (begins c.args.table.now) (reads c.args.table.now) c.args.parts.now c.loop-which.which c.index-parts-which.result c.index-found-which.result (record { found = c.args.found.now; least = c.args.least }) c.args.scope.now (opened_of c.args.opened.now) (spot_of c.args.spot) c.in_ok-value.value (spot_of c.in_ok-value.after) _
    c.loop-which-test.true c.index-parts-which.is b more c.index-found-which.is free c.loop-which.invariant c.in_ok-value.ensures.gives

pub slots-loop-turn-init : goal.slots-loop-turn-init
slots-loop-turn-init t c =
    let one : length c.args.spot.rest.now + 1 - 0 ≡ suc (length c.args.spot.rest.now) = omega arith in
    record {
      onward = record { whole = refl; onward = omega arith };
      slots = ap length c.requires.none ∙ empty_length c.args.parts.now;
      so_far = ap (λ n. items_at (slot_at (begins c.args.table.now) (reads c.args.table.now) 0 c.args.parts.now) (set_done c.args.parts.now) n (record { found = c.args.found.items; least = 0 }) c.args.scope.now (spot_of c.args.spot)) one
          ∙ ap (λ found. items_at (slot_at (begins c.args.table.now) (reads c.args.table.now) 0 c.args.parts.now) (set_done c.args.parts.now) (suc (length c.args.spot.rest.now)) (record { found = found; least = 0 }) c.args.scope.now (spot_of c.args.spot)) c.requires.none;
    }

pub slots-returns-in_err-place-clause-gives : goal.slots-returns-in_err-place-clause-gives
slots-returns-in_err-place-clause-gives t c =
    let h = look_fails (slot_at (begins c.args.table.now) (reads c.args.table.now) 0 c.args.parts.now) (set_done c.args.parts.now) c.in_err-place.field-0.0 (length c.args.spot.rest.now + 1 - c.loop-turn._turn) (record { found = c.loop-turn.found.items; least = c.loop-turn.least }) c.args.scope.now (spot_of c.loop-turn.spot) _ (omega arith) c.loop-turn.invariant.so_far c.in_err-place.ensures.gives in
    search rules

pub slots-returns-then-is_filled-clause-gives : goal.slots-returns-then-is_filled-clause-gives
slots-returns-then-is_filled-clause-gives t c =
    let full : is_filled c.args.parts.now c.deref.result.now ≡ true = cc in
    let full' : is_filled c.args.parts.now c.loop-turn.found.items ≡ true = rw c.deref.ensures.value at full in
    turns_end (slot_at (begins c.args.table.now) (reads c.args.table.now) 0 c.args.parts.now) (set_done c.args.parts.now) (record { found = c.loop-turn.found.items; least = c.loop-turn.least }) _ c.args.scope.now (spot_of c.loop-turn.spot) (length c.args.spot.rest.now + 1 - c.loop-turn._turn) c.in-Ended.place (spot_of c.in-Ended.after) _ (omega arith) c.loop-turn.invariant.so_far
    (c.in_ok-place.ensures.gives ∙ ap (λ a. Ok (ahead_of a)) c.in-Ended.is) (set_full c.args.parts.now (record { found = c.loop-turn.found.items; least = c.loop-turn.least }) full' ∙ ap (λ os. Some (tree.parts (parts_of os))) (sym c.settle.ensures))

pub slots-returns-in-Ended-clause-gives : goal.slots-returns-in-Ended-clause-gives
slots-returns-in-Ended-clause-gives t c =
    let lacks : is_filled c.args.parts.now c.deref.result.now ≡ false = cc in
    let lacks' : is_filled c.args.parts.now c.loop-turn.found.items ≡ false = rw c.deref.ensures.value at lacks in
    rw c.refusal.ensures (turns_lack (slot_at (begins c.args.table.now) (reads c.args.table.now) 0 c.args.parts.now) (set_done c.args.parts.now) (record { found = c.loop-turn.found.items; least = c.loop-turn.least }) c.args.scope.now (spot_of c.loop-turn.spot) (length c.args.spot.rest.now + 1 - c.loop-turn._turn) c.in-Ended.place (spot_of c.in-Ended.after) _ (omega arith) c.loop-turn.invariant.so_far
    (c.in_ok-place.ensures.gives ∙ ap (λ a. Ok (ahead_of a)) c.in-Ended.is) (set_lacks c.args.parts.now (record { found = c.loop-turn.found.items; least = c.loop-turn.least }) lacks'))

pub slots-returns-in_err-slot-in-Begun-clause-gives : goal.slots-returns-in_err-slot-in-Begun-clause-gives
slots-returns-in_err-slot-in-Begun-clause-gives t c =
    let h = step_fails (slot_at (begins c.args.table.now) (reads c.args.table.now) 0 c.args.parts.now) (set_done c.args.parts.now) c.in_err-slot-in-Begun.field-0.0 (length c.args.spot.rest.now + 1 - c.loop-turn._turn) (record { found = c.loop-turn.found.items; least = c.loop-turn.least }) c.args.scope.now (spot_of c.loop-turn.spot) (opened_of c.in-Begun.opened) (spot_of c.in-Begun.after) _ (omega arith) c.loop-turn.invariant.so_far
    (c.in_ok-place.ensures.gives ∙ ap (λ a. Ok (ahead_of a)) c.in-Begun.is) (rw c.deref-in-Begun.ensures.value at c.in_err-slot-in-Begun.ensures.gives) in
    search rules

pub slots-loop-turn-preserved : goal.slots-loop-turn-preserved
slots-loop-turn-preserved t c =
    let opens = subst (LiesIn c.loop-turn.spot.place (length c.loop-turn.spot.rest.now)) c.in-Begun.is c.in_ok-place.ensures.stops in
    let less : length c.args.spot.rest.now + 1 - c.loop-turn._turn - 1 ≡ length c.args.spot.rest.now + 1 - (c.loop-turn._turn + 1) = omega arith in
    let filled : List (Option Value) = slice_set c.loop-turn.found.items c.in_ok-slot-in-Begun.slot.0 (Some c.in_ok-slot-in-Begun.slot.1) in
    let goes = step_goes (slot_at (begins c.args.table.now) (reads c.args.table.now) 0 c.args.parts.now) (set_done c.args.parts.now) (length c.args.spot.rest.now + 1 - c.loop-turn._turn) (record { found = c.loop-turn.found.items; least = c.loop-turn.least }) (record { found = filled; least = rank c.in-Begun.opened.class c.in-Begun.opened.number + 1 }) c.args.scope.now (spot_of c.loop-turn.spot) (opened_of c.in-Begun.opened) (spot_of c.in-Begun.after) (spot_of c.in_ok-slot-in-Begun.slot.2) _ (omega arith) c.loop-turn.invariant.so_far
    (c.in_ok-place.ensures.gives ∙ ap (λ a. Ok (ahead_of a)) c.in-Begun.is) (rw c.deref-in-Begun.ensures.value at c.in_ok-slot-in-Begun.ensures.gives) in
    record {
      onward = goes_then c.loop-turn.invariant.onward (goes_then opens.behind c.in_ok-slot-in-Begun.ensures.stops);
      slots = set_length c.loop-turn.found.items c.in_ok-slot-in-Begun.slot.0 (Some c.in_ok-slot-in-Begun.slot.1) ∙ c.loop-turn.invariant.slots;
      so_far = ap (λ r. items_at (slot_at (begins c.args.table.now) (reads c.args.table.now) 0 c.args.parts.now) (set_done c.args.parts.now) (length c.args.spot.rest.now + 1 - (c.loop-turn._turn + 1)) (record { found = filled; least = r + 1 }) c.args.scope.now (spot_of c.in_ok-slot-in-Begun.slot.2)) c.tag_rank-least.ensures.value
          ∙ ap (λ k. items_at (slot_at (begins c.args.table.now) (reads c.args.table.now) 0 c.args.parts.now) (set_done c.args.parts.now) k (record { found = filled; least = rank c.in-Begun.opened.class c.in-Begun.opened.number + 1 }) c.args.scope.now (spot_of c.in_ok-slot-in-Begun.slot.2)) (sym less) ∙ goes;
    }

pub slots-returns-clause-gives : goal.slots-returns-clause-gives
slots-returns-clause-gives t c =
    no_turns (slot_at (begins c.args.table.now) (reads c.args.table.now) 0 c.args.parts.now) (set_done c.args.parts.now) (length c.args.spot.rest.now + 1 - c.loop-turn._turn) (record { found = c.loop-turn.found.items; least = c.loop-turn.least }) c.args.scope.now (spot_of c.loop-turn.spot) _ (omega arith) c.loop-turn.invariant.so_far

pub items-loop-turn-preserved-in-Some : goal.items-loop-turn-preserved-in-Some
items-loop-turn-preserved-in-Some t c =
    let low : SFits w64 c.in-Integer.low = search rules in
    let high : SFits w64 c.in-Integer.high = search rules in
    let number : SFits w64 c.in-Some.number = search rules in
    let gives = simp to_z-of_z at c.in-Some.ensures.gives in
    let pushed = simp to_z-of_z at c.in_ok-push.ensures.items in
    let less : length c.args.spot.rest.now + 1 - c.loop-turn._turn - 1 ≡ length c.args.spot.rest.now + 1 - (c.loop-turn._turn + 1) = omega arith in
    let more = c.loop-turn.found.items ++ tree.integer c.in-Some.number ∷ [] in
    let read = reads_it c.args.table.now c.row-row.ensures.sound c.args.inner.0 c.in-Integer.low c.in-Integer.high c.in-Some.number (c.row-row.ensures.value ∙ ap Some c.in-Integer.is) c.args.scope.now (spot_of c.loop-turn.spot) (spot_of c.in-Some.next) c.in-Some.ensures.looks gives in
    let goes = step_goes (list_item_at (reads c.args.table.now c.args.inner.0)) list_done (length c.args.spot.rest.now + 1 - c.loop-turn._turn) c.loop-turn.found.items more c.args.scope.now (spot_of c.loop-turn.spot) (integer_opened (spot_of c.loop-turn.spot)) (behind (spot_of c.loop-turn.spot)) (spot_of c.in-Some.next) _ (omega arith) c.loop-turn.invariant.so_far
    c.in-Some.ensures.looks
    (bind_is (reads c.args.table.now c.args.inner.0 plain c.args.scope.now (integer_opened (spot_of c.loop-turn.spot)) (behind (spot_of c.loop-turn.spot))) _ (tree.integer c.in-Some.number, spot_of c.in-Some.next) read) in
    record {
      onward = goes_then c.loop-turn.invariant.onward c.in-Some.ensures.stops;
      so_far = ap (λ found. items_at (list_item_at (reads c.args.table.now c.args.inner.0)) list_done (length c.args.spot.rest.now + 1 - (c.loop-turn._turn + 1)) found c.args.scope.now (spot_of c.in-Some.next)) pushed
          ∙ ap (λ k. items_at (list_item_at (reads c.args.table.now c.args.inner.0)) list_done k more c.args.scope.now (spot_of c.in-Some.next)) (sym less) ∙ goes;
    }

pub parts_of-part_of-requires : goal.parts_of-part_of-requires
parts_of-part_of-requires t c =
    let lt : c.index-parts-len.result.inner.0 < c.args.of.0 = each_part (λ m. m < c.args.of.0) c.args.parts.now c.len-in-loop-alloc.result c.index-parts-len.result c.requires.below (omega arith) c.index-parts-len.is in
    (omega arith, record { below = lt; row = c.requires.row; whole = omega (arith, c.requires.whole, c.loop-alloc.invariant.onward.whole) })

pub parts_of-returns-in_err-value-clause-gives : goal.parts_of-returns-in_err-value-clause-gives
parts_of-returns-in_err-value-clause-gives t c =
    let h = part_fails (begins c.args.table.now) (reads c.args.table.now) c.args.scope.now c.args.parts.now (vec_len c.loop-alloc.found) c.index-parts-len.result c.loop-alloc.found.items (spot_of c.loop-alloc.spot) _ (omega arith) (rw c.len-in-loop-alloc.ensures at c.index-parts-len.is) c.loop-alloc.invariant.so_far c.in_err-value.field-0.0 c.in_err-value.ensures.gives in
    search rules

pub parts_of-parts_at_once-spot-requires-in-loop-alloc-clause-below : goal.parts_of-parts_at_once-spot-requires-in-loop-alloc-clause-below
parts_of-parts_at_once-spot-requires-in-loop-alloc-clause-below t c =
    later_parts (λ m. m < length c.args.table.now) c.args.parts.now _ _ (lower c.args.parts.now c.args.of.0 (length c.args.table.now) c.requires.row c.requires.below)

pub parts_of-loop-alloc-preserved : goal.parts_of-loop-alloc-preserved
parts_of-loop-alloc-preserved t c =
    let goes = part_goes_on (begins c.args.table.now) (reads c.args.table.now) c.args.scope.now c.args.parts.now (vec_len c.loop-alloc.found) c.index-parts-len.result c.loop-alloc.found.items (spot_of c.loop-alloc.spot) _ (omega arith) (rw c.len-in-loop-alloc.ensures at c.index-parts-len.is) c.loop-alloc.invariant.so_far c.in_ok-value.value (spot_of c.in_ok-value.next) c.in_ok-value.ensures.gives in
    let rest = take_rest c.args.parts.now c.len-in-loop-alloc-2.result in
    let left = ap (λ (ps : List Part). length ps) rest ∙ length-drop c.len-in-loop-alloc-2.result c.args.parts.now in
    let before = vec_len c.push_reserved.new.self in
    let now = vec_len c.parts_at_once-spot-in-loop-alloc.new.found in
    let one : c.len-in-loop-alloc-2.result ≡ before = c.len-in-loop-alloc-2.ensures in
    let more : before ≡ vec_len c.loop-alloc.found + 1 = c.push_reserved.ensures.len in
    let some : before ≤ now = c.parts_at_once-spot-in-loop-alloc.ensures.some in
    let same = ap (drop (now - before)) rest ∙ drop-drop (now - before) c.len-in-loop-alloc-2.result c.args.parts.now ∙ ap (λ i. drop i c.args.parts.now) (omega (arith, one, some)) in
    record {
      onward = goes_then c.loop-alloc.invariant.onward (goes_then c.in_ok-value.ensures.stops c.parts_at_once-spot-in-loop-alloc.ensures.stops);
      few = omega (arith, c.parts_at_once-spot-in-loop-alloc.ensures.few, left, one, more);
      room = c.parts_at_once-spot-in-loop-alloc.ensures.room ∙ c.push_reserved.ensures.capacity ∙ c.loop-alloc.invariant.room;
      so_far = ap (λ ps. parts_behind c.parts_at_once-spot-in-loop-alloc.new.found.items (parts_from (begins c.args.table.now) (reads c.args.table.now) c.args.scope.now (spot_of c.parts_at_once-spot-in-loop-alloc.result) ps)) (sym same)
          ∙ c.parts_at_once-spot-in-loop-alloc.ensures.gives
          ∙ ap (λ os. parts_behind os (parts_from (begins c.args.table.now) (reads c.args.table.now) c.args.scope.now (spot_of c.in_ok-value.next) (take (length c.args.parts.now - c.len-in-loop-alloc-2.result) (drop c.len-in-loop-alloc-2.result c.args.parts.now)))) c.push_reserved.ensures.items
          ∙ ap (λ ps. parts_behind (c.loop-alloc.found.items ++ c.in_ok-value.value ∷ []) (parts_from (begins c.args.table.now) (reads c.args.table.now) c.args.scope.now (spot_of c.in_ok-value.next) ps)) (rest ∙ ap (λ i. drop i c.args.parts.now) (omega (arith, one, more)))
          ∙ goes;
    }

pub parts_of-returns-in_err-after-clause-gives : goal.parts_of-returns-in_err-after-clause-gives
parts_of-returns-in_err-after-clause-gives t c =
    let h = end_fails (begins c.args.table.now) (reads c.args.table.now) c.args.scope.now c.args.parts.now (vec_len c.loop-alloc.found) c.loop-alloc.found.items (spot_of c.loop-alloc.spot) _ (omega arith) c.loop-alloc.invariant.so_far c.in_err-after.field-0.0 c.in_err-after.ensures.gives in
    search rules

pub parts_of-returns-clause-gives : goal.parts_of-returns-clause-gives
parts_of-returns-clause-gives t c =
    end_gives (begins c.args.table.now) (reads c.args.table.now) c.args.scope.now c.args.parts.now (vec_len c.loop-alloc.found) c.loop-alloc.found.items (spot_of c.loop-alloc.spot) _ (omega arith) c.loop-alloc.invariant.so_far (spot_of c.in_ok-after.after) c.in_ok-after.ensures.gives

-- ---- values that a default may name

pub value_as-returns-in-Boolean-clause-gives : goal.value_as-returns-in-Boolean-clause-gives
value_as-returns-in-Boolean-clause-gives t c = rw (c.in-Boolean.is, ← c.tag_or-tag.ensures) c.boolean.ensures.gives

pub value_as-returns-in-Enumerated-clause-gives : goal.value_as-returns-in-Enumerated-clause-gives
value_as-returns-in-Enumerated-clause-gives t c = rw (c.in-Enumerated.is, ← c.tag_or-tag-in-Enumerated.ensures, ← c.as_slice.ensures) c.enumerated.ensures.gives

pub value_as-returns-in-Integer-clause-gives : goal.value_as-returns-in-Integer-clause-gives
value_as-returns-in-Integer-clause-gives t c =
    let low : SFits w64 c.in-Integer.low = search rules in
    let high : SFits w64 c.in-Integer.high = search rules in
    rw (c.in-Integer.is, ← c.tag_or-tag-in-Integer.ensures) (simp to_z-of_z at c.integer.ensures.gives)

pub slot-late-requires : goal.slot-late-requires
slot-late-requires t c =
    let lt : c.index-parts-which.result.inner.0 < c.args.of.0 = each_part (λ m. m < c.args.of.0) c.args.parts.now c.loop-which.which c.index-parts-which.result c.requires.reads.below c.loop-which-test.true c.index-parts-which.is in
    (omega arith, record { below = lt; row = c.requires.reads.row; whole = c.requires.reads.whole })
