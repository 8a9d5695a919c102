use Rattle.std.proofs.Common.{◌≡◌, ◌≤◌, ◌+◌, ◌*◌, drop, length}
use Rattle.asn1_types.specs.ValueView.{parts_of, values_of}
use Rattle.asn1_types.specs.Writing.{saturated, parts_contents, values_contents, writes}
use Rattle.ber_writing.proofs.length.+measuring.Given as goal

abbrev pub decreases-value_len : goal.decreases-value_len
decreases-value_len l = 6 * l.of.0 + 5

abbrev pub decreases-row_len : goal.decreases-row_len
decreases-row_len l = 6 * l.of.0 + 4

abbrev pub decreases-explicit_len : goal.decreases-explicit_len
decreases-explicit_len l = 6 * l.of.0 + 3

abbrev pub decreases-choice_len : goal.decreases-choice_len
decreases-choice_len l = 6 * l.of.0 + 3

abbrev pub decreases-alternative_len : goal.decreases-alternative_len
decreases-alternative_len l = 6 * l.of.0 + 2

abbrev pub decreases-sequence_len : goal.decreases-sequence_len
decreases-sequence_len l = 6 * l.of.0 + 3

abbrev pub decreases-parts_len : goal.decreases-parts_len
decreases-parts_len l = 6 * l.of.0 + 2

abbrev pub decreases-part_len : goal.decreases-part_len
decreases-part_len l = 6 * l.of.0 + 1

abbrev pub decreases-parts_len-loop-index : goal.decreases-parts_len-loop-index
decreases-parts_len-loop-index l = l.index

abbrev pub invariant-parts_len-loop-index : goal.invariant-parts_len-loop-index
invariant-parts_len-loop-index l = record {
  parts : l.index ≤ length l.parts;
  values : l.index ≤ length l.values;
  so_far : l.count ≡ saturated (length (parts_contents (writes l.table) (drop l.index l.parts) (parts_of (drop l.index l.values))));
}

abbrev pub decreases-list_len : goal.decreases-list_len
decreases-list_len l = 6 * l.of.0 + 3

abbrev pub decreases-values_len : goal.decreases-values_len
decreases-values_len l = 6 * l.of.0 + 2

abbrev pub decreases-values_len-loop-index : goal.decreases-values_len-loop-index
decreases-values_len-loop-index l = l.index

abbrev pub invariant-values_len-loop-index : goal.invariant-values_len-loop-index
invariant-values_len-loop-index l = record {
  within : l.index ≤ length l.values;
  so_far : l.count ≡ saturated (length (values_contents (writes l.table l.inner.0) (values_of (drop l.index l.values))));
}
