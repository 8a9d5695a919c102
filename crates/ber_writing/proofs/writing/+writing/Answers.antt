use Rattle.std.proofs.Common.{ℕ, List, append_assoc, length-append, ◌≡◌, ◌<◌, ◌≤◌, ◌++◌, ◌-◌, sym, ap, ◌∙◌, subst, arith, length, drop, Some}
use Rattle.std.specs.Prelude.{slice_get}
use Rattle.std.specs.Option.{option_copied}
use Rattle.std.proofs.lemmas.Grind.{common_steps}
use Rattle.std.proofs.lemmas.Option.{slice_get_within}
use Rattle.asn1_types.specs.declared.row.TypeRow.TheVariants.{Sequence, SequenceOf, SetOf, Set, Choice, Tagged}
use Rattle.asn1_types.proofs.Sound.{each_part, down_as}
use Rattle.asn1_types.proofs.FitLaws.{not_within, false_not, each_slot}
use Rattle.asn1_types.specs.ValueView.{parts_of}
use Rattle.asn1_types.specs.Writing.{Writer, of_rank, parts_contents, risen_parts, writes}
use Rattle.asn1_types.specs.Tags.{ranks}
use Rattle.ber_writing.proofs.Counts.{parts_room, values_room}
use Rattle.ber_writing.proofs.SetCounts.{risen_room}
use Rattle.ber_spelling.proofs.WriteLaws.{parts_past, risen_begin, risen_next, risen_end, writes_at, writes_past}
use Rattle.ber_writing.proofs.writing.+writing.Goals as goal

pub put_value-put_row-requires : goal.put_value-put_row-requires
put_value-put_row-requires t c =
    let is = writes_at c.args.table.now c.row.ensures.sound c.args.of.0 c.row.result.now c.row.ensures.value in
    (omega arith, (record { found = c.row.ensures.value; sound = c.row.ensures.sound }, (subst (λ (w : Writer). length (w c.args.tag c.args.value.now) ≤ c.args.end) is c.requires.room, c.requires.end)))

pub put_value-returns-then-has-clause-start : goal.put_value-returns-then-has-clause-start
put_value-returns-then-has-clause-start t c =
    rw (writes_at c.args.table.now c.row.ensures.sound c.args.of.0 c.row.result.now c.row.ensures.value) c.put_row.ensures.start

pub put_value-returns-then-has-clause-put : goal.put_value-returns-then-has-clause-put
put_value-returns-then-has-clause-put t c =
    rw (writes_at c.args.table.now c.row.ensures.sound c.args.of.0 c.row.result.now c.row.ensures.value) c.put_row.ensures.put

pub put_value-returns-else-has-clause-start : goal.put_value-returns-else-has-clause-start
put_value-returns-else-has-clause-start t c =
    rw (writes_past c.args.table.now c.args.of.0 c.args.tag c.args.value.now (not_within (length c.args.table.now) c.args.of.0 (λ lt. false_not (sym c.if-has.false ∙ c.has.ensures.1 lt)))) (omega arith)

pub put_value-returns-else-has-clause-put : goal.put_value-returns-else-has-clause-put
put_value-returns-else-has-clause-put t c =
    ap (λ x. x ++ drop c.args.end c.args.room.now) (sym (writes_past c.args.table.now c.args.of.0 c.args.tag c.args.value.now (not_within (length c.args.table.now) c.args.of.0 (λ lt. false_not (sym c.if-has.false ∙ c.has.ensures.1 lt)))))

pub put_row-put_list-requires : goal.put_row-put_list-requires
put_row-put_list-requires t c =
    let down = down_as c.args.table.now c.args.of.0 c.args.row.now (SequenceOf c.in-SequenceOf.inner) c.requires.row.sound c.requires.row.found c.in-SequenceOf.is in
    let below : c.in-SequenceOf.inner.0 < c.args.of.0 = down.0 in
    (omega arith, (below, (rw c.tag_or-tag-in-SequenceOf.ensures (rw c.in-SequenceOf.is at c.requires.room), c.requires.end)))

pub put_row-put_list-requires-in-SetOf : goal.put_row-put_list-requires-in-SetOf
put_row-put_list-requires-in-SetOf t c =
    let down = down_as c.args.table.now c.args.of.0 c.args.row.now (SetOf c.in-SetOf.inner) c.requires.row.sound c.requires.row.found c.in-SetOf.is in
    let below : c.in-SetOf.inner.0 < c.args.of.0 = down.0 in
    (omega arith, (below, (rw c.tag_or-tag-in-SetOf.ensures (rw c.in-SetOf.is at c.requires.room), c.requires.end)))

pub put_row-put_sequence-requires : goal.put_row-put_sequence-requires
put_row-put_sequence-requires t c =
    let down = down_as c.args.table.now c.args.of.0 c.args.row.now (Sequence c.in-Sequence.parts) c.requires.row.sound c.requires.row.found c.in-Sequence.is in
    (omega arith, (rw c.as_slice.ensures down, (rw (c.as_slice.ensures, c.tag_or-tag-in-Sequence.ensures) (rw c.in-Sequence.is at c.requires.room), c.requires.end)))

pub put_row-put_choice-requires : goal.put_row-put_choice-requires
put_row-put_choice-requires t c =
    let down = down_as c.args.table.now c.args.of.0 c.args.row.now (Choice c.in-Choice.alternatives) c.requires.row.sound c.requires.row.found c.in-Choice.is in
    (omega arith, (down, (rw c.in-Choice.is at c.requires.room, c.requires.end)))

pub put_row-put_explicit-requires : goal.put_row-put_explicit-requires
put_row-put_explicit-requires t c =
    let down = down_as c.args.table.now c.args.of.0 c.args.row.now (Tagged c.in-Tagged.class c.in-Tagged.number c.in-Tagged.explicit c.in-Tagged.inner) c.requires.row.sound c.requires.row.found c.in-Tagged.is in
    let below : c.in-Tagged.inner.0 < c.args.of.0 = down.0 in
    (omega arith, (below, (rw c.tag_or-tag-in-Tagged.ensures (rw c.if-explicit.true at (rw c.in-Tagged.is at c.requires.room)), c.requires.end)))

pub put_row-put_value-requires : goal.put_row-put_value-requires
put_row-put_value-requires t c =
    let down = down_as c.args.table.now c.args.of.0 c.args.row.now (Tagged c.in-Tagged.class c.in-Tagged.number c.in-Tagged.explicit c.in-Tagged.inner) c.requires.row.sound c.requires.row.found c.in-Tagged.is in
    let below : c.in-Tagged.inner.0 < c.args.of.0 = down.0 in
    (omega arith, (rw c.tag_or-tag-in-Tagged.ensures (rw c.if-explicit.false at (rw c.in-Tagged.is at c.requires.room)), c.requires.end))

pub put_alternative-put_value-requires : goal.put_alternative-put_value-requires
put_alternative-put_value-requires t c =
    let slot : slice_get c.args.alternatives.now c.in-Chosen.which ≡ Some c.in-Some.part.now = sym c.get.ensures ∙ ap option_copied c.in-Some.is in
    let lt : c.in-Some.part.now.inner.0 < c.args.of.0 = each_slot (λ m. m < c.args.of.0) c.args.alternatives.now c.in-Chosen.which c.in-Some.part.now c.requires.below slot in
    (omega arith, (grind (arith, common_steps, slot), c.requires.end))

pub put_parts-loop-index-init : goal.put_parts-loop-index-init
put_parts-loop-index-init t c =
    let none = parts_past (writes c.args.table.now) c.args.parts.now c.args.values.now c.min-index.result c.min-index.ensures in
    record {
      parts = omega (arith, c.min-index.ensures);
      values = omega (arith, c.min-index.ensures);
      place = rw none (omega arith);
      put = ap (λ x. x ++ drop c.args.end c.args.room.now) (sym none);
    }

pub put_parts-put_part-start-requires : goal.put_parts-put_part-start-requires
put_parts-put_part-start-requires t c =
    let within : c.loop-index.index - 1 < length c.args.parts.now = omega (arith, c.loop-index.invariant.parts, c.loop-index-test.true) in
    let lt : c.index-parts-index.result.inner.0 < c.args.of.0 = each_part (λ m. m < c.args.of.0) c.args.parts.now (c.loop-index.index - 1) c.index-parts-index.result c.requires.below within c.index-parts-index.is in
    let room = parts_room (writes c.args.table.now) c.args.parts.now c.args.values.now (c.loop-index.index - 1) c.loop-index.index c.index-parts-index.result c.index-values-index.result (omega arith) within (omega arith) c.index-parts-index.is c.index-values-index.is in
    (omega arith, (lt, (omega (arith, room), omega arith)))

pub put_values-put_value-start-requires : goal.put_values-put_value-start-requires
put_values-put_value-start-requires t c =
    let room = values_room (writes c.args.table.now c.args.inner.0) c.args.values.now (c.loop-index.index - 1) c.loop-index.index c.index-values-index.result (omega arith) (omega arith) c.index-values-index.is in
    (omega arith, (omega (arith, room), omega arith))

pub put_row-put_set-requires : goal.put_row-put_set-requires
put_row-put_set-requires t c =
    let lt = slice_get_within c.args.table.now c.args.of.0 c.args.row.now c.requires.row.found in
    let down = down_as c.args.table.now c.args.of.0 c.args.row.now (Set c.in-Set.parts) c.requires.row.sound c.requires.row.found c.in-Set.is in
    (omega arith, (record { below = rw c.as_slice-in-Set.ensures down; within = omega arith }, (rw (c.as_slice-in-Set.ensures, c.tag_or-tag-in-Set.ensures) (rw c.in-Set.is at c.requires.room), c.requires.end)))

pub put_of_rank-loop-index-init : goal.put_of_rank-loop-index-init
put_of_rank-loop-index-init t c =
    let none = parts_past (of_rank c.args.rank (writes c.args.table.now)) c.args.parts.now c.args.values.now c.min-index.result c.min-index.ensures in
    record {
      parts = omega (arith, c.min-index.ensures);
      values = omega (arith, c.min-index.ensures);
      place = rw none (omega arith);
      put = ap (λ x. x ++ drop c.args.end c.args.room.now) (sym none);
    }

pub put_of_rank-put_if_of_rank-start-requires : goal.put_of_rank-put_if_of_rank-start-requires
put_of_rank-put_if_of_rank-start-requires t c =
    let within : c.loop-index.index - 1 < length c.args.parts.now = omega (arith, c.loop-index.invariant.parts, c.loop-index-test.true) in
    let lt : c.index-parts-index.result.inner.0 < c.args.of.0 = each_part (λ m. m < c.args.of.0) c.args.parts.now (c.loop-index.index - 1) c.index-parts-index.result c.requires.parts.below within c.index-parts-index.is in
    let room = parts_room (of_rank c.args.rank (writes c.args.table.now)) c.args.parts.now c.args.values.now (c.loop-index.index - 1) c.loop-index.index c.index-parts-index.result c.index-values-index.result (omega arith) within (omega arith) c.index-parts-index.is c.index-values-index.is in
    (omega arith, (record { below = lt; within = c.requires.parts.within }, (omega (arith, room), omega arith)))

pub put_risen-loop-bound-init : goal.put_risen-loop-bound-init
put_risen-loop-bound-init t c =
    let none = risen_begin (writes c.args.table.now) c.args.parts.now (parts_of c.args.values.now) ranks in
    record {
      within = omega arith;
      place = rw none (omega arith);
      put = ap (λ x. x ++ drop c.args.end c.args.room.now) (sym none);
    }

pub put_risen-put_of_rank-start-requires : goal.put_risen-put_of_rank-start-requires
put_risen-put_of_rank-start-requires t c =
    let some : 0 < c.next_rank-next.result = omega arith in
    let low : c.next_rank-next.result - 1 < c.loop-bound.bound = omega (arith, c.next_rank-next.ensures.within) in
    let room = risen_room (writes c.args.table.now) c.args.parts.now (parts_of c.args.values.now) c.loop-bound.bound (c.next_rank-next.result - 1) low c.loop-bound.invariant.within (λ k ge lt. c.next_rank-next.ensures.none k (omega arith) lt) in
    (omega arith, (c.requires.parts, (omega (arith, room), omega arith)))

pub put_risen-loop-bound-preserved : goal.put_risen-loop-bound-preserved
put_risen-loop-bound-preserved t c =
    let some : 0 < c.next_rank-next.result = omega arith in
    let low : c.next_rank-next.result - 1 < c.loop-bound.bound = omega (arith, c.next_rank-next.ensures.within) in
    let one : List ℕ = parts_contents (of_rank (c.next_rank-next.result - 1) (writes c.args.table.now)) c.args.parts.now (parts_of c.args.values.now) in
    let others : List ℕ = risen_parts (writes c.args.table.now) (ranks - c.loop-bound.bound) c.loop-bound.bound c.args.parts.now (parts_of c.args.values.now) in
    let more = risen_next (writes c.args.table.now) c.args.parts.now (parts_of c.args.values.now) ranks c.loop-bound.bound (c.next_rank-next.result - 1) low c.loop-bound.invariant.within (λ k ge lt. c.next_rank-next.ensures.none k (omega arith) lt) in
    let both = ap length more ∙ length-append one others in
    record {
      within = omega (arith, c.loop-bound.invariant.within);
      place = omega (arith, both);
      put = c.put_of_rank-start.ensures.put ∙ ap (λ x. one ++ x) c.loop-bound.invariant.put ∙ sym (append_assoc one others (drop c.args.end c.args.room.now)) ∙ ap (λ x. x ++ drop c.args.end c.args.room.now) (sym more);
    }

pub put_risen-returns-after-loop-bound-clause-start : goal.put_risen-returns-after-loop-bound-clause-start
put_risen-returns-after-loop-bound-clause-start t c =
    let all = risen_end (writes c.args.table.now) c.args.parts.now (parts_of c.args.values.now) c.loop-bound.bound c.loop-bound.invariant.within (λ k lt. absurd (omega (arith, c.loop-bound-test.false))) in
    rw (← all) c.loop-bound.invariant.place

pub put_risen-returns-after-loop-bound-clause-put : goal.put_risen-returns-after-loop-bound-clause-put
put_risen-returns-after-loop-bound-clause-put t c =
    let all = risen_end (writes c.args.table.now) c.args.parts.now (parts_of c.args.values.now) c.loop-bound.bound c.loop-bound.invariant.within (λ k lt. absurd (omega (arith, c.loop-bound-test.false))) in
    rw (← all) c.loop-bound.invariant.put

pub put_risen-returns-then-next-eq0-clause-start : goal.put_risen-returns-then-next-eq0-clause-start
put_risen-returns-then-next-eq0-clause-start t c =
    let all = risen_end (writes c.args.table.now) c.args.parts.now (parts_of c.args.values.now) c.loop-bound.bound c.loop-bound.invariant.within (λ k lt. c.next_rank-next.ensures.none k (omega arith) lt) in
    rw (← all) c.loop-bound.invariant.place

pub put_risen-returns-then-next-eq0-clause-put : goal.put_risen-returns-then-next-eq0-clause-put
put_risen-returns-then-next-eq0-clause-put t c =
    let all = risen_end (writes c.args.table.now) c.args.parts.now (parts_of c.args.values.now) c.loop-bound.bound c.loop-bound.invariant.within (λ k lt. c.next_rank-next.ensures.none k (omega arith) lt) in
    rw (← all) c.loop-bound.invariant.put
