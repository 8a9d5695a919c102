use Rattle.std.proofs.Common.{◌≡◌, ◌+◌, ◌*◌, ◌-◌, [], zero, length}
use Rattle.value_reading.specs.Typed.{parts_at, items_at, read_as}
use Rattle.value_reading.proofs.typed.+reading.Given as goal

abbrev pub decreases-read_as : goal.decreases-read_as
decreases-read_as l = 6 * l.of.0 + 5

abbrev pub decreases-read_row : goal.decreases-read_row
decreases-read_row l = 6 * l.of.0 + 4

abbrev pub decreases-read_tagged : goal.decreases-read_tagged
decreases-read_tagged l = 6 * l.of.0 + 3

abbrev pub decreases-read_choice : goal.decreases-read_choice
decreases-read_choice l = 6 * l.of.0 + 3

abbrev pub decreases-read_sequence : goal.decreases-read_sequence
decreases-read_sequence l = 6 * l.of.0 + 3

abbrev pub decreases-read_list : goal.decreases-read_list
decreases-read_list l = 6 * l.of.0 + 3

abbrev pub decreases-read_set_of : goal.decreases-read_set_of
decreases-read_set_of l = 6 * l.of.0 + 3

abbrev pub decreases-read_parts : goal.decreases-read_parts
decreases-read_parts l = 6 * l.of.0 + 2

abbrev pub decreases-read_items : goal.decreases-read_items
decreases-read_items l = 6 * l.of.0 + 2

abbrev pub decreases-read_part : goal.decreases-read_part
decreases-read_part l = 6 * l.of.0 + 1

abbrev pub invariant-read_parts-loop-turn : goal.invariant-read_parts-loop-turn
invariant-read_parts-loop-turn l = record {
  rest : parts_at (read_as l.table) l.in_order l.parts (length l.parts) l.fn.slots.items zero l.fn.text
      ≡ parts_at (read_as l.table) l.in_order l.parts (length l.parts - l._turn) l.slots.items l.least l.here;
  slots : length l.slots.items ≡ length l.parts;
}

abbrev pub decreases-read_more_items : goal.decreases-read_more_items
decreases-read_more_items l = 6 * l.of.0 + 1

abbrev pub invariant-read_more_items-loop-turn : goal.invariant-read_more_items-loop-turn
invariant-read_more_items-loop-turn l =
    items_at (read_as l.table l.inner.0) (length l.text) [] l.text ≡ items_at (read_as l.table l.inner.0) (length l.text - l._turn) l.values.items l.here
