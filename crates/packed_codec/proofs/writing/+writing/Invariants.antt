use Rattle.std.proofs.Common.{◌+◌, ◌*◌, drop}
use Rattle.asn1_types.specs.ValueView.{parts_of, values_of}
use Rattle.packed_codec.specs.Writing.{parts_written, values_written, packed}
use Rattle.packed_codec.proofs.Room.{Filled}
use Rattle.packed_codec.proofs.writing.+writing.Given as goal

abbrev pub decreases-put_value : goal.decreases-put_value
decreases-put_value l = 6 * l.of.0 + 5

abbrev pub decreases-put_row : goal.decreases-put_row
decreases-put_row l = 6 * l.of.0 + 4

abbrev pub decreases-put_choice : goal.decreases-put_choice
decreases-put_choice l = 6 * l.of.0 + 3

abbrev pub decreases-put_sequence : goal.decreases-put_sequence
decreases-put_sequence l = 6 * l.of.0 + 3

abbrev pub decreases-put_parts : goal.decreases-put_parts
decreases-put_parts l = 6 * l.of.0 + 2

abbrev pub decreases-put_part : goal.decreases-put_part
decreases-put_part l = 6 * l.of.0 + 1

abbrev pub decreases-put_list : goal.decreases-put_list
decreases-put_list l = 6 * l.of.0 + 3

abbrev pub decreases-put_items : goal.decreases-put_items
decreases-put_items l = 6 * l.of.0 + 2

abbrev pub invariant-put_parts-loop-index : goal.invariant-put_parts-loop-index
invariant-put_parts-loop-index l = Filled (parts_written (packed l.table) l.parts (parts_of l.values)) (parts_written (packed l.table) (drop l.index l.parts) (parts_of (drop l.index l.values))) l.at l.fn.out l.out l.behind

abbrev pub invariant-put_items-loop-value : goal.invariant-put_items-loop-value
invariant-put_items-loop-value l = Filled (values_written (packed l.table l.inner.0) (values_of l.values)) (values_written (packed l.table l.inner.0) (values_of (drop l.value-index l.values))) l.at l.fn.out l.out l.behind
