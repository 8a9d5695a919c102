use Rattle.std.proofs.Common.{◌≡◌, ◌≤◌, ◌<◌, ◌+◌, ◌-◌, ◌*◌, drop, length, get_or}
use Rattle.osi_base.specs.Limits.{most_spelled}
use Rattle.asn1_types.specs.Tags.{ranks}
use Rattle.asn1_types.specs.ValueView.{parts_of, values_of}
use Rattle.asn1_types.specs.Writing.{parts_contents, values_contents, of_rank, risen_parts, writes}
use Rattle.ber_writing.proofs.octet.+picking.Given as goal

abbrev pub decreases-octet_at : goal.decreases-octet_at
decreases-octet_at l = 7 * l.of.0 + 6

abbrev pub decreases-row_octet : goal.decreases-row_octet
decreases-row_octet l = 7 * l.of.0 + 5

abbrev pub decreases-list_octet : goal.decreases-list_octet
decreases-list_octet l = 7 * l.of.0 + 3

abbrev pub decreases-explicit_octet : goal.decreases-explicit_octet
decreases-explicit_octet l = 7 * l.of.0 + 3

abbrev pub decreases-choice_octet : goal.decreases-choice_octet
decreases-choice_octet l = 7 * l.of.0 + 3

abbrev pub decreases-sequence_octet : goal.decreases-sequence_octet
decreases-sequence_octet l = 7 * l.of.0 + 3

abbrev pub decreases-set_octet : goal.decreases-set_octet
decreases-set_octet l = 7 * l.of.0 + 4

abbrev pub decreases-set_parts_octet : goal.decreases-set_parts_octet
decreases-set_parts_octet l = 7 * l.of.0 + 3

abbrev pub decreases-values_octet : goal.decreases-values_octet
decreases-values_octet l = 7 * l.of.0 + 2

abbrev pub decreases-alternative_octet : goal.decreases-alternative_octet
decreases-alternative_octet l = 7 * l.of.0 + 2

abbrev pub decreases-parts_octet : goal.decreases-parts_octet
decreases-parts_octet l = 7 * l.of.0 + 2

abbrev pub decreases-risen_octet : goal.decreases-risen_octet
decreases-risen_octet l = 7 * l.of.0 + 2

abbrev pub decreases-ranked_octet : goal.decreases-ranked_octet
decreases-ranked_octet l = 7 * l.of.0 + 1

abbrev pub decreases-part_octet : goal.decreases-part_octet
decreases-part_octet l = 7 * l.of.0

abbrev pub invariant-values_octet-loop-value : goal.invariant-values_octet-loop-value
invariant-values_octet-loop-value l = record {
  octet : get_or (values_contents (writes l.table l.inner.0) (values_of (drop l.value-index l.values))) l.place 0 ≡ get_or (values_contents (writes l.table l.inner.0) (values_of l.values)) l.at 0;
  short : length (values_contents (writes l.table l.inner.0) (values_of (drop l.value-index l.values))) ≤ most_spelled;
}

abbrev pub invariant-parts_octet-loop-index : goal.invariant-parts_octet-loop-index
invariant-parts_octet-loop-index l = record {
  octet : get_or (parts_contents (writes l.table) (drop l.index l.parts) (parts_of (drop l.index l.values))) l.place 0 ≡ get_or (parts_contents (writes l.table) l.parts (parts_of l.values)) l.at 0;
  short : length (parts_contents (writes l.table) (drop l.index l.parts) (parts_of (drop l.index l.values))) ≤ most_spelled;
}

abbrev pub invariant-ranked_octet-loop-index : goal.invariant-ranked_octet-loop-index
invariant-ranked_octet-loop-index l = record {
  octet : get_or (parts_contents (of_rank l.rank (writes l.table)) (drop l.index l.parts) (parts_of (drop l.index l.values))) l.place 0 ≡ get_or (parts_contents (of_rank l.rank (writes l.table)) l.parts (parts_of l.values)) l.at 0;
  short : length (parts_contents (of_rank l.rank (writes l.table)) (drop l.index l.parts) (parts_of (drop l.index l.values))) ≤ most_spelled;
}

abbrev pub decreases-risen_octet-loop-bound : goal.decreases-risen_octet-loop-bound
decreases-risen_octet-loop-bound l = l.bound

abbrev pub invariant-risen_octet-loop-bound : goal.invariant-risen_octet-loop-bound
invariant-risen_octet-loop-bound l = record {
  within : l.bound ≤ ranks;
  before : l.at < l.start;
  place : l.start + length (risen_parts (writes l.table) (ranks - l.bound) l.bound l.parts (parts_of l.values)) ≡ l.count;
}
