use Rattle.std.proofs.Common.{◌≡◌, ◌+◌, ◌*◌, ◌++◌, drop, true}
use Rattle.asn1_types.specs.ValueView.{parts_of, values_of}
use Rattle.value_text.specs.Printed.{parts_text, items_text, printed}
use Rattle.value_text.proofs.print.+printing.Given as goal

abbrev pub decreases-put_typed : goal.decreases-put_typed
decreases-put_typed l = 6 * l.of.0 + 5

abbrev pub decreases-put_row : goal.decreases-put_row
decreases-put_row l = 6 * l.of.0 + 4

abbrev pub decreases-put_tagged : goal.decreases-put_tagged
decreases-put_tagged l = 6 * l.of.0 + 3

abbrev pub decreases-put_choice : goal.decreases-put_choice
decreases-put_choice l = 6 * l.of.0 + 3

abbrev pub decreases-put_sequence : goal.decreases-put_sequence
decreases-put_sequence l = 6 * l.of.0 + 3

abbrev pub decreases-put_parts : goal.decreases-put_parts
decreases-put_parts l = 6 * l.of.0 + 2

abbrev pub decreases-put_slot : goal.decreases-put_slot
decreases-put_slot l = 6 * l.of.0 + 1

abbrev pub decreases-put_part : goal.decreases-put_part
decreases-put_part l = 6 * l.of.0

abbrev pub decreases-put_list : goal.decreases-put_list
decreases-put_list l = 6 * l.of.0 + 3

abbrev pub decreases-put_items : goal.decreases-put_items
decreases-put_items l = 6 * l.of.0 + 2

abbrev pub invariant-put_parts-loop-index : goal.invariant-put_parts-loop-index
invariant-put_parts-loop-index l = l.fn.text ++ parts_text (printed l.table) true l.parts (parts_of l.values) ≡ l.text ++ parts_text (printed l.table) l.first (drop l.index l.parts) (parts_of (drop l.index l.values))

abbrev pub invariant-put_items-loop-value : goal.invariant-put_items-loop-value
invariant-put_items-loop-value l = l.fn.text ++ items_text (printed l.table l.inner.0) true (values_of l.values) ≡ l.text ++ items_text (printed l.table l.inner.0) l.first (values_of (drop l.value-index l.values))
