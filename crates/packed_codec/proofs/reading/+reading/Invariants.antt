use Rattle.std.proofs.Common.{◌≡◌, ◌+◌, ◌-◌, ◌*◌, [], drop, length}
use Rattle.packed_codec.specs.Reading.{spot_of, GoesOn}
use Rattle.packed_codec.specs.Rules.{parts_at, items_at, set_item_at, set_items_at, reads}
use Rattle.asn1_types.specs.Writing.{written}
use Rattle.packed_codec.proofs.Loops.{behind}
use Rattle.packed_codec.proofs.reading.+reading.Given as goal

abbrev pub decreases-value : goal.decreases-value
decreases-value l = 6 * l.of.0 + 5

abbrev pub decreases-value_as : goal.decreases-value_as
decreases-value_as l = 6 * l.of.0 + 4

abbrev pub decreases-tagged : goal.decreases-tagged
decreases-tagged l = 6 * l.of.0 + 3

abbrev pub decreases-choice : goal.decreases-choice
decreases-choice l = 6 * l.of.0 + 3

abbrev pub decreases-sequence : goal.decreases-sequence
decreases-sequence l = 6 * l.of.0 + 3

abbrev pub decreases-parts_of : goal.decreases-parts_of
decreases-parts_of l = 6 * l.of.0 + 2

abbrev pub decreases-part_of : goal.decreases-part_of
decreases-part_of l = 6 * l.of.0 + 1

abbrev pub decreases-list : goal.decreases-list
decreases-list l = 6 * l.of.0 + 3

abbrev pub decreases-items_of : goal.decreases-items_of
decreases-items_of l = 6 * l.of.0 + 2

abbrev pub invariant-parts_of-loop-part : goal.invariant-parts_of-loop-part
invariant-parts_of-loop-part l = record {
  onward : GoesOn l.fn.spot.place (length l.fn.spot.rest.now) l.spot;
  so_far : behind l.found.items (parts_at (reads l.table) l.limit (spot_of l.spot) (drop l.part-index l.parts)) ≡ parts_at (reads l.table) l.limit (spot_of l.fn.spot) l.parts;
}

abbrev pub invariant-items_of-loop-index : goal.invariant-items_of-loop-index
invariant-items_of-loop-index l = record {
  onward : GoesOn l.fn.spot.place (length l.fn.spot.rest.now) l.spot;
  so_far : behind l.found.items (items_at (reads l.table l.inner.0) (l.number - l._index) l.limit (spot_of l.spot)) ≡ items_at (reads l.table l.inner.0) l.number l.limit (spot_of l.fn.spot);
}

abbrev pub decreases-set_of : goal.decreases-set_of
decreases-set_of l = 6 * l.of.0 + 3

abbrev pub decreases-set_items : goal.decreases-set_items
decreases-set_items l = 6 * l.of.0 + 2

abbrev pub decreases-set_item : goal.decreases-set_item
decreases-set_item l = 6 * l.of.0 + 1

abbrev pub invariant-set_items-loop-index : goal.invariant-set_items-loop-index
invariant-set_items-loop-index l = record {
  onward : GoesOn l.fn.spot.place (length l.fn.spot.rest.now) l.spot;
  so_far : behind l.found.items (set_items_at (set_item_at (written l.table l.inner.0) (reads l.table l.inner.0)) l.found.items (l.number - l._index) l.limit (spot_of l.spot)) ≡ set_items_at (set_item_at (written l.table l.inner.0) (reads l.table l.inner.0)) [] l.number l.limit (spot_of l.fn.spot);
}
