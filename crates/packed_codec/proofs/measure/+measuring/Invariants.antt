use Rattle.std.proofs.Common.{◌≡◌, ◌+◌, ◌*◌, ◌≤◌, min, drop, length}
use Rattle.osi_base.specs.Limits.{last_count}
use Rattle.asn1_types.specs.ValueView.{parts_of, values_of}
use Rattle.packed_codec.specs.Writing.{parts_written, values_written, packed}
use Rattle.packed_codec.proofs.measure.+measuring.Given as goal

abbrev pub decreases-packed_len : goal.decreases-packed_len
decreases-packed_len l = 6 * l.of.0 + 5

abbrev pub decreases-of_row : goal.decreases-of_row
decreases-of_row l = 6 * l.of.0 + 4

abbrev pub decreases-of_choice : goal.decreases-of_choice
decreases-of_choice l = 6 * l.of.0 + 3

abbrev pub decreases-of_sequence : goal.decreases-of_sequence
decreases-of_sequence l = 6 * l.of.0 + 3

abbrev pub decreases-of_parts : goal.decreases-of_parts
decreases-of_parts l = 6 * l.of.0 + 2

abbrev pub decreases-of_part : goal.decreases-of_part
decreases-of_part l = 6 * l.of.0 + 1

abbrev pub decreases-of_list : goal.decreases-of_list
decreases-of_list l = 6 * l.of.0 + 3

abbrev pub decreases-of_items : goal.decreases-of_items
decreases-of_items l = 6 * l.of.0 + 2

abbrev pub invariant-of_parts-loop-index : goal.invariant-of_parts-loop-index
invariant-of_parts-loop-index l = record {
  few : l.size ≤ last_count;
  so_far : min (l.size + length (parts_written (packed l.table) (drop l.index l.parts) (parts_of (drop l.index l.values)))) last_count ≡ min (length (parts_written (packed l.table) l.parts (parts_of l.values))) last_count;
}

abbrev pub invariant-of_items-loop-value : goal.invariant-of_items-loop-value
invariant-of_items-loop-value l = record {
  few : l.size ≤ last_count;
  so_far : min (l.size + length (values_written (packed l.table l.inner.0) (values_of (drop l.value-index l.values)))) last_count ≡ min (length (values_written (packed l.table l.inner.0) (values_of l.values))) last_count;
}
