use Rattle.std.proofs.Common.{◌≡◌, ◌≤◌, ◌+◌, ◌*◌, drop, length}
use Rattle.asn1_types.specs.ValueView.{parts_of, values_of}
use Rattle.asn1_types.specs.Writing.{saturated}
use Rattle.asn1_types.specs.PackedSize.{parts_size, values_size, packed_size}
use Rattle.ber_writing.proofs.size.+sizing.Given as goal

abbrev pub decreases-packed_size : goal.decreases-packed_size
decreases-packed_size l = 6 * l.of.0 + 5

abbrev pub decreases-row_size : goal.decreases-row_size
decreases-row_size l = 6 * l.of.0 + 4

abbrev pub decreases-choice_size : goal.decreases-choice_size
decreases-choice_size l = 6 * l.of.0 + 3

abbrev pub decreases-sequence_size : goal.decreases-sequence_size
decreases-sequence_size l = 6 * l.of.0 + 3

abbrev pub decreases-each_size : goal.decreases-each_size
decreases-each_size l = 6 * l.of.0 + 2

abbrev pub decreases-part_size : goal.decreases-part_size
decreases-part_size l = 6 * l.of.0 + 1

abbrev pub decreases-list_size : goal.decreases-list_size
decreases-list_size l = 6 * l.of.0 + 3

abbrev pub decreases-items_size : goal.decreases-items_size
decreases-items_size l = 6 * l.of.0 + 2

abbrev pub decreases-each_size-loop-index : goal.decreases-each_size-loop-index
decreases-each_size-loop-index l = l.index

abbrev pub invariant-each_size-loop-index : goal.invariant-each_size-loop-index
invariant-each_size-loop-index l = record {
  parts : l.index ≤ length l.parts;
  values : l.index ≤ length l.values;
  so_far : l.size ≡ saturated (parts_size (packed_size l.table) (drop l.index l.parts) (parts_of (drop l.index l.values)));
}

abbrev pub decreases-items_size-loop-index : goal.decreases-items_size-loop-index
decreases-items_size-loop-index l = l.index

abbrev pub invariant-items_size-loop-index : goal.invariant-items_size-loop-index
invariant-items_size-loop-index l = record {
  within : l.index ≤ length l.values;
  so_far : l.size ≡ saturated (values_size (packed_size l.table l.inner.0) (values_of (drop l.index l.values)));
}
