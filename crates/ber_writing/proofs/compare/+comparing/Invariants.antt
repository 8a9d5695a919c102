use Rattle.std.proofs.Common.{◌≡◌, ◌≤◌, ◌+◌, ◌-◌, ◌*◌, ◌++◌, List, ℕ, drop, length}
use Rattle.asn1_types.specs.ValueView.{parts_of, values_of}
use Rattle.asn1_types.specs.Writing.{parts_contents, values_contents, of_rank, risen_parts, writes}
use Rattle.asn1_types.specs.Tags.{ranks}
use Rattle.ber_writing.specs.Comparing.{IsCompared, IsRest}
use Rattle.ber_writing.proofs.compare.+comparing.Given as goal

abbrev pub decreases-values_compared : goal.decreases-values_compared
decreases-values_compared l = 7 * l.of.0 + 6

abbrev pub decreases-row_compared : goal.decreases-row_compared
decreases-row_compared l = 7 * l.of.0 + 5

abbrev pub decreases-explicit_compared : goal.decreases-explicit_compared
decreases-explicit_compared l = 7 * l.of.0 + 4

abbrev pub decreases-lists_compared : goal.decreases-lists_compared
decreases-lists_compared l = 7 * l.of.0 + 4

abbrev pub decreases-sequences_compared : goal.decreases-sequences_compared
decreases-sequences_compared l = 7 * l.of.0 + 4

abbrev pub decreases-sets_compared : goal.decreases-sets_compared
decreases-sets_compared l = 7 * l.of.0 + 4

abbrev pub decreases-choices_compared : goal.decreases-choices_compared
decreases-choices_compared l = 7 * l.of.0 + 4

abbrev pub decreases-items_compared : goal.decreases-items_compared
decreases-items_compared l = 7 * l.of.0 + 3

abbrev pub decreases-parts_compared : goal.decreases-parts_compared
decreases-parts_compared l = 7 * l.of.0 + 3

abbrev pub decreases-risen_compared : goal.decreases-risen_compared
decreases-risen_compared l = 7 * l.of.0 + 3

abbrev pub decreases-alternatives_compared : goal.decreases-alternatives_compared
decreases-alternatives_compared l = 7 * l.of.0 + 3

abbrev pub decreases-rank_before : goal.decreases-rank_before
decreases-rank_before l = 7 * l.of.0 + 2

abbrev pub decreases-ranked_before : goal.decreases-ranked_before
decreases-ranked_before l = 7 * l.of.0 + 1

abbrev pub decreases-part_before : goal.decreases-part_before
decreases-part_before l = 7 * l.of.0

abbrev pub decreases-items_compared-loop-index : goal.decreases-items_compared-loop-index
decreases-items_compared-loop-index l = l.index

abbrev pub decreases-parts_compared-loop-index : goal.decreases-parts_compared-loop-index
decreases-parts_compared-loop-index l = l.index

abbrev pub decreases-risen_compared-loop-bound : goal.decreases-risen_compared-loop-bound
decreases-risen_compared-loop-bound l = l.bound

abbrev pub decreases-rank_before-loop-index : goal.decreases-rank_before-loop-index
decreases-rank_before-loop-index l = l.index

abbrev pub invariant-items_compared-loop-index : goal.invariant-items_compared-loop-index
invariant-items_compared-loop-index l = record {
  values : l.index ≤ length l.values;
  others : l.index ≤ length l.others;
  so_far : IsCompared l.told (values_contents (writes l.table l.inner.0) (values_of (drop l.index l.values))) (values_contents (writes l.table l.inner.0) (values_of (drop l.index l.others)));
}

abbrev pub invariant-parts_compared-loop-index : goal.invariant-parts_compared-loop-index
invariant-parts_compared-loop-index l = record {
  parts : l.index ≤ length l.parts;
  values : length l.values ≡ length l.parts;
  others : length l.others ≡ length l.parts;
  so_far : IsRest l.rest (parts_contents (writes l.table) (drop l.index l.parts) (parts_of (drop l.index l.values))) (parts_contents (writes l.table) (drop l.index l.parts) (parts_of (drop l.index l.others)));
}

abbrev pub invariant-rank_before-loop-index : goal.invariant-rank_before-loop-index
invariant-rank_before-loop-index l = record {
  parts : l.index ≤ length l.parts;
  so_far : (xs ys : List ℕ) → IsRest l.fn.behind xs ys
      → IsRest l.rest (parts_contents (of_rank l.rank (writes l.table)) (drop l.index l.parts) (parts_of (drop l.index l.values)) ++ xs) (parts_contents (of_rank l.rank (writes l.table)) (drop l.index l.parts) (parts_of (drop l.index l.others)) ++ ys);
}

abbrev pub invariant-risen_compared-loop-bound : goal.invariant-risen_compared-loop-bound
invariant-risen_compared-loop-bound l = record {
  within : l.bound ≤ ranks;
  values : length l.values ≡ length l.parts;
  others : length l.others ≡ length l.parts;
  so_far : IsRest l.rest (risen_parts (writes l.table) (ranks - l.bound) l.bound l.parts (parts_of l.values)) (risen_parts (writes l.table) (ranks - l.bound) l.bound l.parts (parts_of l.others));
}
