use Rattle.std.proofs.Common.{ℕ, List, length-append, get_or, ◌≡◌, ◌<◌, ◌≤◌, ◌-◌, sym, ap, ◌∙◌, subst, arith, length, Some}
use Rattle.std.specs.Prelude.{slice_get}
use Rattle.std.specs.Option.{option_copied}
use Rattle.std.proofs.lemmas.Grind.{common_steps}
use Rattle.std.proofs.lemmas.Option.{slice_get_within}
use Rattle.osi_base.specs.Limits.{most_spelled}
use Rattle.asn1_types.specs.declared.row.TypeRow.TheVariants.{Sequence, SequenceOf, SetOf, Set, Choice, Tagged}
use Rattle.asn1_types.proofs.Sound.{each_part, down_as}
use Rattle.asn1_types.proofs.FitLaws.{not_within, false_not, each_slot}
use Rattle.asn1_types.specs.ValueView.{parts_of}
use Rattle.asn1_types.specs.Writing.{Writer, of_rank, parts_contents, risen_parts, writes}
use Rattle.asn1_types.specs.Tags.{ranks}
use Rattle.ber_writing.proofs.SetCounts.{risen_room}
use Rattle.ber_writing.proofs.OctetLaws.{part_short, ranked_same, no_octet, set_octet}
use Rattle.ber_spelling.proofs.WriteLaws.{parts_past, risen_begin, risen_next, risen_end, writes_at, writes_past}
use Rattle.ber_writing.proofs.octet.+picking.Goals as goal

pub octet_at-row_octet-requires : goal.octet_at-row_octet-requires
octet_at-row_octet-requires t c =
    let is = writes_at c.args.table.now c.row.ensures.sound c.args.of.0 c.row.result.now c.row.ensures.value in
    (omega arith, (record { found = c.row.ensures.value; sound = c.row.ensures.sound }, subst (λ (w : Writer). length (w c.args.tag c.args.value.now) ≤ most_spelled) is c.requires))

pub octet_at-returns-then-has : goal.octet_at-returns-then-has
octet_at-returns-then-has t c =
    rw (writes_at c.args.table.now c.row.ensures.sound c.args.of.0 c.row.result.now c.row.ensures.value) c.row_octet.ensures

pub octet_at-returns-else-has : goal.octet_at-returns-else-has
octet_at-returns-else-has t c =
    rw (writes_past c.args.table.now c.args.of.0 c.args.tag c.args.value.now (not_within (length c.args.table.now) c.args.of.0 (λ lt. false_not (sym c.if-has.false ∙ c.has.ensures.1 lt)))) (sym (no_octet c.args.at))

pub row_octet-list_octet-requires : goal.row_octet-list_octet-requires
row_octet-list_octet-requires t c =
    let down = down_as c.args.table.now c.args.of.0 c.args.row.now (SequenceOf c.in-SequenceOf.inner) c.requires.row.sound c.requires.row.found c.in-SequenceOf.is in
    let below : c.in-SequenceOf.inner.0 < c.args.of.0 = down.0 in
    (omega arith, (below, rw c.tag_or-tag-in-SequenceOf.ensures (rw c.in-SequenceOf.is at c.requires.short)))

pub row_octet-list_octet-requires-in-SetOf : goal.row_octet-list_octet-requires-in-SetOf
row_octet-list_octet-requires-in-SetOf t c =
    let down = down_as c.args.table.now c.args.of.0 c.args.row.now (SetOf c.in-SetOf.inner) c.requires.row.sound c.requires.row.found c.in-SetOf.is in
    let below : c.in-SetOf.inner.0 < c.args.of.0 = down.0 in
    (omega arith, (below, rw c.tag_or-tag-in-SetOf.ensures (rw c.in-SetOf.is at c.requires.short)))

pub row_octet-sequence_octet-requires : goal.row_octet-sequence_octet-requires
row_octet-sequence_octet-requires t c =
    let down = down_as c.args.table.now c.args.of.0 c.args.row.now (Sequence c.in-Sequence.parts) c.requires.row.sound c.requires.row.found c.in-Sequence.is in
    (omega arith, (rw c.as_slice.ensures down, rw (c.as_slice.ensures, c.tag_or-tag-in-Sequence.ensures) (rw c.in-Sequence.is at c.requires.short)))

pub row_octet-choice_octet-requires : goal.row_octet-choice_octet-requires
row_octet-choice_octet-requires t c =
    let down = down_as c.args.table.now c.args.of.0 c.args.row.now (Choice c.in-Choice.alternatives) c.requires.row.sound c.requires.row.found c.in-Choice.is in
    (omega arith, (down, rw c.in-Choice.is at c.requires.short))

pub row_octet-explicit_octet-requires : goal.row_octet-explicit_octet-requires
row_octet-explicit_octet-requires t c =
    let down = down_as c.args.table.now c.args.of.0 c.args.row.now (Tagged c.in-Tagged.class c.in-Tagged.number c.in-Tagged.explicit c.in-Tagged.inner) c.requires.row.sound c.requires.row.found c.in-Tagged.is in
    let below : c.in-Tagged.inner.0 < c.args.of.0 = down.0 in
    (omega arith, (below, rw c.tag_or-tag-in-Tagged.ensures (rw c.if-explicit.true at (rw c.in-Tagged.is at c.requires.short))))

pub row_octet-octet_at-requires : goal.row_octet-octet_at-requires
row_octet-octet_at-requires t c =
    let down = down_as c.args.table.now c.args.of.0 c.args.row.now (Tagged c.in-Tagged.class c.in-Tagged.number c.in-Tagged.explicit c.in-Tagged.inner) c.requires.row.sound c.requires.row.found c.in-Tagged.is in
    let below : c.in-Tagged.inner.0 < c.args.of.0 = down.0 in
    (omega arith, rw c.tag_or-tag-in-Tagged.ensures (rw c.if-explicit.false at (rw c.in-Tagged.is at c.requires.short)))

pub row_octet-set_octet-requires : goal.row_octet-set_octet-requires
row_octet-set_octet-requires t c =
    let lt = slice_get_within c.args.table.now c.args.of.0 c.args.row.now c.requires.row.found in
    let down = down_as c.args.table.now c.args.of.0 c.args.row.now (Set c.in-Set.parts) c.requires.row.sound c.requires.row.found c.in-Set.is in
    (omega arith, (record { below = rw c.as_slice-in-Set.ensures down; within = omega arith }, rw (c.as_slice-in-Set.ensures, c.tag_or-tag-in-Set.ensures) (rw c.in-Set.is at c.requires.short)))

pub alternative_octet-octet_at-requires : goal.alternative_octet-octet_at-requires
alternative_octet-octet_at-requires t c =
    let slot : slice_get c.args.alternatives.now c.in-Chosen.which ≡ Some c.in-Some.part.now = sym c.get.ensures ∙ ap option_copied c.in-Some.is in
    let lt : c.in-Some.part.now.inner.0 < c.args.of.0 = each_slot (λ m. m < c.args.of.0) c.args.alternatives.now c.in-Chosen.which c.in-Some.part.now c.requires.below slot in
    (omega arith, grind (arith, common_steps, slot, c.requires.short))

pub parts_octet-part_len-len-requires : goal.parts_octet-part_len-len-requires
parts_octet-part_len-len-requires t c =
    let within : c.loop-index.index < length c.args.parts.now = omega (arith, c.min-index-end.ensures, c.loop-index-test.true) in
    record { below = each_part (λ m. m < c.args.of.0) c.args.parts.now c.loop-index.index c.index-parts-index.result c.requires.below within c.index-parts-index.is }

pub parts_octet-part_octet-requires : goal.parts_octet-part_octet-requires
parts_octet-part_octet-requires t c =
    let within : c.loop-index.index < length c.args.parts.now = omega (arith, c.min-index-end.ensures, c.loop-index-test.true) in
    let other : c.loop-index.index < length c.args.values.now = omega (arith, c.min-index-end.ensures, c.loop-index-test.true) in
    let lt : c.index-parts-index-then-place-len.result.inner.0 < c.args.of.0 = each_part (λ m. m < c.args.of.0) c.args.parts.now c.loop-index.index c.index-parts-index-then-place-len.result c.requires.below within c.index-parts-index-then-place-len.is in
    (omega arith, (lt, part_short (writes c.args.table.now) c.args.parts.now c.args.values.now c.loop-index.index most_spelled c.index-parts-index-then-place-len.result c.index-values-index-then-place-len.result within other c.index-parts-index-then-place-len.is c.index-values-index-then-place-len.is c.loop-index.invariant.short))

pub parts_octet-returns : goal.parts_octet-returns
parts_octet-returns t c =
    let end : c.loop-index.index ≡ c.min-index-end.result = omega (arith, c.loop-index.auto.index-end, c.loop-index-test.false) in
    let none = parts_past (writes c.args.table.now) c.args.parts.now c.args.values.now c.loop-index.index (end ∙ c.min-index-end.ensures) in
    sym (no_octet c.loop-index.place) ∙ ap (λ (l : List ℕ). get_or l c.loop-index.place 0) (sym none) ∙ c.loop-index.invariant.octet

pub ranked_octet-if_ranked_len-len-requires-clause-part : goal.ranked_octet-if_ranked_len-len-requires-clause-part
ranked_octet-if_ranked_len-len-requires-clause-part t c =
    let within : c.loop-index.index < length c.args.parts.now = omega (arith, c.min-index-end.ensures, c.loop-index-test.true) in
    record { below = each_part (λ m. m < c.args.of.0) c.args.parts.now c.loop-index.index c.index-parts-index.result c.requires.parts.below within c.index-parts-index.is; within = c.requires.parts.within }

pub ranked_octet-part_octet-requires : goal.ranked_octet-part_octet-requires
ranked_octet-part_octet-requires t c =
    let within : c.loop-index.index < length c.args.parts.now = omega (arith, c.min-index-end.ensures, c.loop-index-test.true) in
    let other : c.loop-index.index < length c.args.values.now = omega (arith, c.min-index-end.ensures, c.loop-index-test.true) in
    let lt : c.index-parts-index.result.inner.0 < c.args.of.0 = each_part (λ m. m < c.args.of.0) c.args.parts.now c.loop-index.index c.index-parts-index.result c.requires.parts.below within c.index-parts-index.is in
    let short = part_short (of_rank c.args.rank (writes c.args.table.now)) c.args.parts.now c.args.values.now c.loop-index.index most_spelled c.index-parts-index.result c.index-values-index.result within other c.index-parts-index.is c.index-values-index.is c.loop-index.invariant.short in
    let same = ranked_same (writes c.args.table.now) c.args.rank c.index-parts-index.result c.index-values-index.result (omega (arith, c.if-place-len.true, c.if_ranked_len-len.ensures)) in
    (omega arith, (lt, subst (λ (l : List ℕ). length l ≤ most_spelled) same short))

pub ranked_octet-returns : goal.ranked_octet-returns
ranked_octet-returns t c =
    let end : c.loop-index.index ≡ c.min-index-end.result = omega (arith, c.loop-index.auto.index-end, c.loop-index-test.false) in
    let none = parts_past (of_rank c.args.rank (writes c.args.table.now)) c.args.parts.now c.args.values.now c.loop-index.index (end ∙ c.min-index-end.ensures) in
    sym (no_octet c.loop-index.place) ∙ ap (λ (l : List ℕ). get_or l c.loop-index.place 0) (sym none) ∙ c.loop-index.invariant.octet

pub risen_octet-loop-bound-init : goal.risen_octet-loop-bound-init
risen_octet-loop-bound-init t c =
    let none = risen_begin (writes c.args.table.now) c.args.parts.now (parts_of c.args.values.now) ranks in
    record {
      within = omega arith;
      before = omega arith;
      place = rw none (omega arith);
    }

pub risen_octet-ranked_len-start-requires-clause-short : goal.risen_octet-ranked_len-start-requires-clause-short
risen_octet-ranked_len-start-requires-clause-short t c =
    let some : 0 < c.next_rank-next.result = omega arith in
    let low : c.next_rank-next.result - 1 < c.loop-bound.bound = omega (arith, c.next_rank-next.ensures.within) in
    let room = risen_room (writes c.args.table.now) c.args.parts.now (parts_of c.args.values.now) c.loop-bound.bound (c.next_rank-next.result - 1) low c.loop-bound.invariant.within (λ k ge lt. c.next_rank-next.ensures.none k (omega arith) lt) in
    omega (arith, room, c.requires.count, c.requires.short)

pub risen_octet-overflow_sub-start : goal.risen_octet-overflow_sub-start
risen_octet-overflow_sub-start t c =
    let some : 0 < c.next_rank-next.result = omega arith in
    let low : c.next_rank-next.result - 1 < c.loop-bound.bound = omega (arith, c.next_rank-next.ensures.within) in
    let room = risen_room (writes c.args.table.now) c.args.parts.now (parts_of c.args.values.now) c.loop-bound.bound (c.next_rank-next.result - 1) low c.loop-bound.invariant.within (λ k ge lt. c.next_rank-next.ensures.none k (omega arith) lt) in
    omega (arith, room, c.requires.count, c.loop-bound.invariant.place, c.ranked_len-start.ensures)

pub risen_octet-ranked_octet-requires : goal.risen_octet-ranked_octet-requires
risen_octet-ranked_octet-requires t c =
    let some : 0 < c.next_rank-next.result = omega arith in
    let low : c.next_rank-next.result - 1 < c.loop-bound.bound = omega (arith, c.next_rank-next.ensures.within) in
    let room = risen_room (writes c.args.table.now) c.args.parts.now (parts_of c.args.values.now) c.loop-bound.bound (c.next_rank-next.result - 1) low c.loop-bound.invariant.within (λ k ge lt. c.next_rank-next.ensures.none k (omega arith) lt) in
    (omega arith, (c.requires.parts, omega (arith, room, c.requires.count, c.requires.short)))

pub risen_octet-returns-then-start-at : goal.risen_octet-returns-then-start-at
risen_octet-returns-then-start-at t c =
    let some : 0 < c.next_rank-next.result = omega arith in
    let low : c.next_rank-next.result - 1 < c.loop-bound.bound = omega (arith, c.next_rank-next.ensures.within) in
    let room = risen_room (writes c.args.table.now) c.args.parts.now (parts_of c.args.values.now) c.loop-bound.bound (c.next_rank-next.result - 1) low c.loop-bound.invariant.within (λ k ge lt. c.next_rank-next.ensures.none k (omega arith) lt) in
    let one : List ℕ = parts_contents (of_rank (c.next_rank-next.result - 1) (writes c.args.table.now)) c.args.parts.now (parts_of c.args.values.now) in
    let others : List ℕ = risen_parts (writes c.args.table.now) (ranks - c.loop-bound.bound) c.loop-bound.bound c.args.parts.now (parts_of c.args.values.now) in
    c.ranked_octet.ensures ∙ sym (set_octet (writes c.args.table.now) c.args.parts.now (parts_of c.args.values.now) c.loop-bound.bound (c.next_rank-next.result - 1) c.args.at (c.loop-bound.start - c.ranked_len-start.result) c.args.count low c.loop-bound.invariant.within (λ k ge lt. c.next_rank-next.ensures.none k (omega arith) lt) c.requires.count (omega (arith, room, c.requires.count, c.loop-bound.invariant.place, c.ranked_len-start.ensures)) (omega arith) (omega (arith, room, c.requires.count, c.loop-bound.invariant.place, c.loop-bound.invariant.before, c.ranked_len-start.ensures)))

pub risen_octet-loop-bound-preserved : goal.risen_octet-loop-bound-preserved
risen_octet-loop-bound-preserved t c =
    let some : 0 < c.next_rank-next.result = omega arith in
    let low : c.next_rank-next.result - 1 < c.loop-bound.bound = omega (arith, c.next_rank-next.ensures.within) in
    let room = risen_room (writes c.args.table.now) c.args.parts.now (parts_of c.args.values.now) c.loop-bound.bound (c.next_rank-next.result - 1) low c.loop-bound.invariant.within (λ k ge lt. c.next_rank-next.ensures.none k (omega arith) lt) in
    let one : List ℕ = parts_contents (of_rank (c.next_rank-next.result - 1) (writes c.args.table.now)) c.args.parts.now (parts_of c.args.values.now) in
    let others : List ℕ = risen_parts (writes c.args.table.now) (ranks - c.loop-bound.bound) c.loop-bound.bound c.args.parts.now (parts_of c.args.values.now) in
    let more = risen_next (writes c.args.table.now) c.args.parts.now (parts_of c.args.values.now) ranks c.loop-bound.bound (c.next_rank-next.result - 1) low c.loop-bound.invariant.within (λ k ge lt. c.next_rank-next.ensures.none k (omega arith) lt) in
    let both = ap length more ∙ length-append one others in
    record {
      within = omega (arith, c.loop-bound.invariant.within);
      before = omega arith;
      place = omega (arith, both, room, c.requires.count, c.loop-bound.invariant.place, c.ranked_len-start.ensures);
    }

pub risen_octet-returns-after-loop-bound : goal.risen_octet-returns-after-loop-bound
risen_octet-returns-after-loop-bound t c =
    let all = ap length (risen_end (writes c.args.table.now) c.args.parts.now (parts_of c.args.values.now) c.loop-bound.bound c.loop-bound.invariant.within (λ k lt. absurd (omega (arith, c.loop-bound-test.false)))) in
    absurd (omega (arith, all, c.requires.count, c.loop-bound.invariant.place, c.loop-bound.invariant.before))

pub risen_octet-returns-then-next-eq0 : goal.risen_octet-returns-then-next-eq0
risen_octet-returns-then-next-eq0 t c =
    let all = ap length (risen_end (writes c.args.table.now) c.args.parts.now (parts_of c.args.values.now) c.loop-bound.bound c.loop-bound.invariant.within (λ k lt. c.next_rank-next.ensures.none k (omega arith) lt)) in
    absurd (omega (arith, all, c.requires.count, c.loop-bound.invariant.place, c.loop-bound.invariant.before))
