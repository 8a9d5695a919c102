use Rattle.std.proofs.Common.{◌≡◌, ◌<◌, ◌-◌, ◌++◌, ℕ, List, [], true, false, length, drop, sym, ap, ◌∙◌, subst, arith, Some, None, inl}
use Rattle.std.specs.Prelude.{slice_get}
use Rattle.std.specs.Option.{option_copied}
use Rattle.std.proofs.lemmas.Option.{slice_get_within}
use Rattle.asn1_types.specs.declared.row.TypeRow.TheVariants.{Sequence, SequenceOf, SetOf, Set, Choice, Tagged}
use Rattle.asn1_types.specs.Value.{Value, MaybeValues}
use Rattle.asn1_types.specs.ValueView.{parts_of, values_of}
use Rattle.asn1_types.specs.Writing.{Writer, saturated, parts_contents, values_contents, set_parts, of_rank, risen_parts, alternative_written, choice_written, writes}
use Rattle.asn1_types.specs.Tags.{ranks}
use Rattle.asn1_types.proofs.Sound.{each_part, down_as}
use Rattle.asn1_types.proofs.FitLaws.{each_slot}
use Rattle.ber_spelling.proofs.WriteLaws.{parts_none, risen_begin, risen_end, writes_at}
use Rattle.ber_writing.specs.Comparing.{IsRest}
use Rattle.ber_writing.proofs.ComparedLaws.{tail_is, apart_compared}
use Rattle.ber_writing.proofs.RestLaws.{parts_step, parts_step_behind, risen_step, values_end, values_step, end_compared, end_is}
use Rattle.ber_writing.proofs.compare.+comparing.Goals as goal

pub values_compared-returns-then-has : goal.values_compared-returns-then-has
values_compared-returns-then-has t c =
    rw (writes_at c.args.table.now c.row.ensures.sound c.args.of.0 c.row.result.now c.row.ensures.value) c.row_compared.ensures

pub row_compared-lists_compared-requires : goal.row_compared-lists_compared-requires
row_compared-lists_compared-requires t c =
    let down = down_as c.args.table.now c.args.of.0 c.args.row.now (SequenceOf c.in-SequenceOf.inner) c.requires.row.sound c.requires.row.found c.in-SequenceOf.is in
    let below : c.in-SequenceOf.inner.0 < c.args.of.0 = down.0 in
    (omega arith, below)

pub row_compared-lists_compared-requires-in-SetOf : goal.row_compared-lists_compared-requires-in-SetOf
row_compared-lists_compared-requires-in-SetOf t c =
    let down = down_as c.args.table.now c.args.of.0 c.args.row.now (SetOf c.in-SetOf.inner) c.requires.row.sound c.requires.row.found c.in-SetOf.is in
    let below : c.in-SetOf.inner.0 < c.args.of.0 = down.0 in
    (omega arith, below)

pub row_compared-sequences_compared-requires : goal.row_compared-sequences_compared-requires
row_compared-sequences_compared-requires t c =
    let down = down_as c.args.table.now c.args.of.0 c.args.row.now (Sequence c.in-Sequence.parts) c.requires.row.sound c.requires.row.found c.in-Sequence.is in
    (omega arith, rw c.as_slice.ensures down)

pub row_compared-sets_compared-requires : goal.row_compared-sets_compared-requires
row_compared-sets_compared-requires t c =
    let lt = slice_get_within c.args.table.now c.args.of.0 c.args.row.now c.requires.row.found in
    let down = down_as c.args.table.now c.args.of.0 c.args.row.now (Set c.in-Set.parts) c.requires.row.sound c.requires.row.found c.in-Set.is in
    (omega arith, record { below = rw c.as_slice-in-Set.ensures down; within = omega arith })

pub row_compared-choices_compared-requires : goal.row_compared-choices_compared-requires
row_compared-choices_compared-requires t c =
    let down = down_as c.args.table.now c.args.of.0 c.args.row.now (Choice c.in-Choice.alternatives) c.requires.row.sound c.requires.row.found c.in-Choice.is in
    (omega arith, down)

pub row_compared-explicit_compared-requires : goal.row_compared-explicit_compared-requires
row_compared-explicit_compared-requires t c =
    let down = down_as c.args.table.now c.args.of.0 c.args.row.now (Tagged c.in-Tagged.class c.in-Tagged.number c.in-Tagged.explicit c.in-Tagged.inner) c.requires.row.sound c.requires.row.found c.in-Tagged.is in
    let below : c.in-Tagged.inner.0 < c.args.of.0 = down.0 in
    (omega arith, below)

pub row_compared-values_compared-requires : goal.row_compared-values_compared-requires
row_compared-values_compared-requires t c =
    let down = down_as c.args.table.now c.args.of.0 c.args.row.now (Tagged c.in-Tagged.class c.in-Tagged.number c.in-Tagged.explicit c.in-Tagged.inner) c.requires.row.sound c.requires.row.found c.in-Tagged.is in
    let below : c.in-Tagged.inner.0 < c.args.of.0 = down.0 in
    (omega arith, tt)

pub explicit_compared-returns : goal.explicit_compared-returns
explicit_compared-returns t c =
    let f : Writer = writes c.args.table.now c.args.inner.0 in
    c.whole.ensures true (f None c.args.a.now) (f None c.args.b.now) (apart_compared c.in_ok-contents.contents (f None c.args.a.now) (f None c.args.b.now) c.in_ok-contents.ensures)

pub lists_compared-returns : goal.lists_compared-returns
lists_compared-returns t c =
    let f : Writer = writes c.args.table.now c.args.inner.0 in
    rw (c.in_ok-values.ensures f, c.in_ok-others.ensures f) (c.whole.ensures true (values_contents f (values_of c.in_ok-values.values.now)) (values_contents f (values_of c.in_ok-others.others.now)) c.in_ok-contents.ensures)

pub sequences_compared-returns : goal.sequences_compared-returns
sequences_compared-returns t c =
    let f : MaybeValues → List ℕ = parts_contents (writes c.args.table.now) c.args.parts.now in
    rw (c.in_ok-values.ensures f, c.in_ok-others.ensures f) (c.whole.ensures true (f (parts_of c.in_ok-values.values.now)) (f (parts_of c.in_ok-others.others.now)) c.in_ok-contents.ensures)

pub sets_compared-returns : goal.sets_compared-returns
sets_compared-returns t c =
    let f : MaybeValues → List ℕ = set_parts (writes c.args.table.now) c.args.parts.now in
    rw (c.in_ok-values.ensures f, c.in_ok-others.ensures f) (c.whole.ensures true (f (parts_of c.in_ok-values.values.now)) (f (parts_of c.in_ok-others.others.now)) c.in_ok-contents.ensures)

pub items_compared-loop-index-init : goal.items_compared-loop-index-init
items_compared-loop-index-init t c =
    let f : Writer = writes c.args.table.now c.args.inner.0 in
    let i : ℕ = c.min-index.result in
    record {
      values = omega (arith, c.min-index.ensures);
      others = omega (arith, c.min-index.ensures);
      so_far = c.one_alone-told.ensures (values_contents f (values_of (drop i c.args.values.now))) (values_contents f (values_of (drop i c.args.others.now)))
          (c.values_len.ensures ∙ ap (λ (vs : List Value). saturated (length (values_contents f (values_of vs)))) (tail_is c.args.values.now i))
          (c.values_len-2.ensures ∙ ap (λ (vs : List Value). saturated (length (values_contents f (values_of vs)))) (tail_is c.args.others.now i))
          (values_end f c.args.values.now c.args.others.now i c.min-index.ensures);
    }

pub items_compared-loop-index-preserved : goal.items_compared-loop-index-preserved
items_compared-loop-index-preserved t c =
    let f : Writer = writes c.args.table.now c.args.inner.0 in
    let i : ℕ = c.loop-index.index - 1 in
    record {
      values = omega (arith, c.loop-index.invariant.values);
      others = omega (arith, c.loop-index.invariant.others);
      so_far = values_step f c.args.values.now c.args.others.now i c.loop-index.index c.index-values-index.result c.index-others-index.result c.loop-index.told c.then-told.result
          (omega (arith, c.loop-index-test.true)) (omega (arith, c.loop-index-test.true, c.loop-index.invariant.values)) (omega (arith, c.loop-index-test.true, c.loop-index.invariant.others))
          c.index-values-index.is c.index-others-index.is
          (λ xs ys h. c.then-told.ensures (f None c.index-values-index.result) (f None c.index-others-index.result) xs ys c.in_ok-values_compared.ensures h) c.loop-index.invariant.so_far;
    }

pub parts_compared-loop-index-init : goal.parts_compared-loop-index-init
parts_compared-loop-index-init t c =
    let f = writes c.args.table.now in
    record {
      parts = omega arith;
      values = omega arith;
      others = omega arith;
      so_far = end_is (parts_contents f (drop (length c.args.parts.now) c.args.parts.now) (parts_of (drop (length c.args.parts.now) c.args.values.now))) (parts_contents f (drop (length c.args.parts.now) c.args.parts.now) (parts_of (drop (length c.args.parts.now) c.args.others.now)))
          (parts_none f c.args.parts.now c.args.values.now (length c.args.parts.now) (inl (omega arith))) (parts_none f c.args.parts.now c.args.others.now (length c.args.parts.now) (inl (omega arith)));
    }

pub parts_compared-part_before-requires : goal.parts_compared-part_before-requires
parts_compared-part_before-requires t c =
    let within : c.loop-index.index - 1 < length c.args.parts.now = omega (arith, c.loop-index.invariant.parts, c.loop-index-test.true) in
    let lt : c.index-parts-index.result.inner.0 < c.args.of.0 = each_part (λ m. m < c.args.of.0) c.args.parts.now (c.loop-index.index - 1) c.index-parts-index.result c.requires within c.index-parts-index.is in
    (omega arith, lt)

pub parts_compared-loop-index-preserved : goal.parts_compared-loop-index-preserved
parts_compared-loop-index-preserved t c =
    let f = writes c.args.table.now in
    let i : ℕ = c.loop-index.index - 1 in
    record {
      parts = omega (arith, c.loop-index.invariant.parts);
      values = c.loop-index.invariant.values;
      others = c.loop-index.invariant.others;
      so_far = parts_step f c.args.parts.now c.args.values.now c.args.others.now i c.loop-index.index c.index-parts-index.result c.index-values-index.result c.index-others-index.result c.loop-index.rest c.in_ok-rest.rest
          (omega (arith, c.loop-index-test.true)) (omega (arith, c.loop-index-test.true, c.loop-index.invariant.parts)) (omega (arith, c.loop-index-test.true, c.loop-index.invariant.parts, c.loop-index.invariant.values)) (omega (arith, c.loop-index-test.true, c.loop-index.invariant.parts, c.loop-index.invariant.others))
          c.index-parts-index.is c.index-values-index.is c.index-others-index.is c.in_ok-rest.ensures c.loop-index.invariant.so_far;
    }

pub rank_before-loop-index-init : goal.rank_before-loop-index-init
rank_before-loop-index-init t c =
    let f = of_rank c.args.rank (writes c.args.table.now) in
    let n : ℕ = length c.args.parts.now in
    record {
      parts = omega arith;
      so_far = λ xs ys h.
          rw (parts_none f c.args.parts.now c.args.values.now n (inl (omega arith)), parts_none f c.args.parts.now c.args.others.now n (inl (omega arith))) h;
    }

pub rank_before-ranked_before-requires : goal.rank_before-ranked_before-requires
rank_before-ranked_before-requires t c =
    let within : c.loop-index.index - 1 < length c.args.parts.now = omega (arith, c.loop-index.invariant.parts, c.loop-index-test.true) in
    let lt : c.index-parts-index.result.inner.0 < c.args.of.0 = each_part (λ m. m < c.args.of.0) c.args.parts.now (c.loop-index.index - 1) c.index-parts-index.result c.requires.parts.below within c.index-parts-index.is in
    (omega arith, record { below = lt; within = c.requires.parts.within })

pub rank_before-loop-index-preserved : goal.rank_before-loop-index-preserved
rank_before-loop-index-preserved t c =
    let f = of_rank c.args.rank (writes c.args.table.now) in
    let i : ℕ = c.loop-index.index - 1 in
    record {
      parts = omega (arith, c.loop-index.invariant.parts);
      so_far = λ xs ys h.
          parts_step_behind f c.args.parts.now c.args.values.now c.args.others.now i c.loop-index.index c.index-parts-index.result c.index-values-index.result c.index-others-index.result c.loop-index.rest c.in_ok-rest.rest xs ys
          (omega (arith, c.loop-index-test.true)) (omega (arith, c.loop-index-test.true, c.loop-index.invariant.parts)) (omega (arith, c.loop-index-test.true, c.loop-index.invariant.parts, c.requires.values)) (omega (arith, c.loop-index-test.true, c.loop-index.invariant.parts, c.requires.others))
          c.index-parts-index.is c.index-values-index.is c.index-others-index.is c.in_ok-rest.ensures (c.loop-index.invariant.so_far xs ys h);
    }

pub risen_compared-loop-bound-init : goal.risen_compared-loop-bound-init
risen_compared-loop-bound-init t c = record {
  within = omega arith;
  values = omega arith;
  others = omega arith;
  so_far = end_is (risen_parts (writes c.args.table.now) (ranks - ranks) ranks c.args.parts.now (parts_of c.args.values.now)) (risen_parts (writes c.args.table.now) (ranks - ranks) ranks c.args.parts.now (parts_of c.args.others.now))
      (risen_begin (writes c.args.table.now) c.args.parts.now (parts_of c.args.values.now) ranks) (risen_begin (writes c.args.table.now) c.args.parts.now (parts_of c.args.others.now) ranks);
}

pub risen_compared-loop-bound-preserved : goal.risen_compared-loop-bound-preserved
risen_compared-loop-bound-preserved t c =
    let low : c.max-next.result - 1 < c.loop-bound.bound = omega (arith, c.max-next.ensures, c.next_rank-first.ensures.within, c.next_rank-second.ensures.within) in
    record {
      within = omega (arith, c.loop-bound.invariant.within);
      values = c.loop-bound.invariant.values;
      others = c.loop-bound.invariant.others;
      so_far = risen_step (writes c.args.table.now) c.args.parts.now (parts_of c.args.values.now) (parts_of c.args.others.now) ranks c.loop-bound.bound (c.max-next.result - 1) c.loop-bound.rest c.in_ok-rest.rest low c.loop-bound.invariant.within
          (λ k ge lt. c.next_rank-first.ensures.none k (omega (arith, c.max-next.ensures)) lt) (λ k ge lt. c.next_rank-second.ensures.none k (omega (arith, c.max-next.ensures)) lt)
          c.in_ok-rest.ensures c.loop-bound.invariant.so_far;
    }

pub risen_compared-returns : goal.risen_compared-returns
risen_compared-returns t c =
    let a = risen_end (writes c.args.table.now) c.args.parts.now (parts_of c.args.values.now) c.loop-bound.bound c.loop-bound.invariant.within (λ k lt. absurd (omega (arith, c.loop-bound-test.false))) in
    let b = risen_end (writes c.args.table.now) c.args.parts.now (parts_of c.args.others.now) c.loop-bound.bound c.loop-bound.invariant.within (λ k lt. absurd (omega (arith, c.loop-bound-test.false))) in
    rw (← a, ← b) c.loop-bound.invariant.so_far.told

pub risen_compared-returns-then-next-eq0 : goal.risen_compared-returns-then-next-eq0
risen_compared-returns-then-next-eq0 t c =
    let a = risen_end (writes c.args.table.now) c.args.parts.now (parts_of c.args.values.now) c.loop-bound.bound c.loop-bound.invariant.within (λ k lt. c.next_rank-first.ensures.none k (omega (arith, c.max-next.ensures)) lt) in
    let b = risen_end (writes c.args.table.now) c.args.parts.now (parts_of c.args.others.now) c.loop-bound.bound c.loop-bound.invariant.within (λ k lt. c.next_rank-second.ensures.none k (omega (arith, c.max-next.ensures)) lt) in
    rw (← a, ← b) c.loop-bound.invariant.so_far.told

pub rank_before-returns : goal.rank_before-returns
rank_before-returns t c = λ xs ys h.
    let f = of_rank c.args.rank (writes c.args.table.now) in
    let none : c.loop-index.index ≡ 0 = omega (arith, c.loop-index-test.false) in
    subst (λ (n : ℕ). IsRest c.loop-index.rest (parts_contents f (drop n c.args.parts.now) (parts_of (drop n c.args.values.now)) ++ xs) (parts_contents f (drop n c.args.parts.now) (parts_of (drop n c.args.others.now)) ++ ys)) none
    (c.loop-index.invariant.so_far xs ys h)

pub choices_compared-returns-in-Some : goal.choices_compared-returns-in-Some
choices_compared-returns-in-Some t c =
    let f : Value → List ℕ = choice_written (λ which. alternative_written (writes c.args.table.now) (slice_get c.args.alternatives.now which)) in
    rw c.in-Some.is (c.whole.ensures true (f c.args.a.now) (f c.args.b.now) (apart_compared c.in_ok-inside.inside (f c.args.a.now) (f c.args.b.now) c.in_ok-inside.ensures))

pub part_before-returns-in_ok-piece-in-Some-Some : goal.part_before-returns-in_ok-piece-in-Some-Some
part_before-returns-in_ok-piece-in-Some-Some t c = λ xs ys h.
    rw (c.in-Some-Some.is-0, c.in-Some-Some.is-1) (record {
      told = c.then.ensures _ _ xs ys c.in_ok-piece-in-Some-Some.ensures h.told;
      lead = c.lead_of.ensures xs;
      other = c.lead_of-in-Some-Some.ensures ys;
    })

pub alternatives_compared-values_compared-requires : goal.alternatives_compared-values_compared-requires
alternatives_compared-values_compared-requires t c =
    let slot : slice_get c.args.alternatives.now c.in_ok-which.which ≡ Some c.in_ok-part.part.now = sym c.get.ensures ∙ ap option_copied c.in_ok-part.was in
    let lt : c.in_ok-part.part.now.inner.0 < c.args.of.0 = each_slot (λ m. m < c.args.of.0) c.args.alternatives.now c.in_ok-which.which c.in_ok-part.part.now c.requires slot in
    (omega arith, tt)

pub row_compared-returns-in-Null : goal.row_compared-returns-in-Null
row_compared-returns-in-Null t c = rw c.in-Null.is (rw c.tag_or-in-Null.ensures at (c.whole.ensures false [] [] end_compared))
