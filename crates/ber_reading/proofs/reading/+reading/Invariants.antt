use Rattle.std.proofs.Common.{◌≡◌, ◌≤◌, ◌+◌, ◌-◌, ◌*◌, [], drop, length}
use Rattle.std.specs.Vec.{vec_len, vec_capacity}
use Rattle.asn1_types.specs.Rows.{begins}
use Rattle.asn1_types.specs.Writing.{written}
use Rattle.ber_spelling.specs.Reading.{opened_of, spot_of, GoesOn}
use Rattle.ber_spelling.specs.Rules.{items_at, all_items_at, list_item_at, list_done, set_item_at, set_of_done, choice_at, reads, slot_at, set_done, nothing_filled}
use Rattle.ber_reading.specs.Parts.{parts_from, parts_behind}
use Rattle.ber_reading.proofs.reading.+reading.Given as goal

abbrev pub decreases-value : goal.decreases-value
decreases-value l = 8 * l.of.0 + 7

abbrev pub decreases-value_as : goal.decreases-value_as
decreases-value_as l = 8 * l.of.0 + 6

abbrev pub decreases-choice_under : goal.decreases-choice_under
decreases-choice_under l = 8 * l.of.0 + 5

abbrev pub decreases-tagged_choice : goal.decreases-tagged_choice
decreases-tagged_choice l = 8 * l.of.0 + 4

abbrev pub decreases-tagged : goal.decreases-tagged
decreases-tagged l = 8 * l.of.0 + 4

abbrev pub decreases-choice : goal.decreases-choice
decreases-choice l = 8 * l.of.0 + 3

abbrev pub decreases-list : goal.decreases-list
decreases-list l = 8 * l.of.0 + 5

abbrev pub decreases-items : goal.decreases-items
decreases-items l = 8 * l.of.0 + 4

abbrev pub invariant-items-loop-turn : goal.invariant-items-loop-turn
invariant-items-loop-turn l = record {
  onward : GoesOn l.fn.spot.place (length l.fn.spot.rest.now) l.spot;
  so_far : items_at (list_item_at (reads l.table l.inner.0)) list_done (l._turn-end - l._turn) l.found.items l.scope (spot_of l.spot) ≡ all_items_at (list_item_at (reads l.table l.inner.0)) list_done [] l.scope (spot_of l.fn.spot);
}

abbrev pub decreases-set_of : goal.decreases-set_of
decreases-set_of l = 8 * l.of.0 + 5

abbrev pub decreases-set_items : goal.decreases-set_items
decreases-set_items l = 8 * l.of.0 + 4

abbrev pub decreases-set_item : goal.decreases-set_item
decreases-set_item l = 8 * l.of.0 + 3

abbrev pub invariant-set_items-loop-turn : goal.invariant-set_items-loop-turn
invariant-set_items-loop-turn l = record {
  onward : GoesOn l.fn.spot.place (length l.fn.spot.rest.now) l.spot;
  so_far : items_at (set_item_at (written l.table l.inner.0) (reads l.table l.inner.0)) (set_of_done (written l.table l.inner.0)) (l._turn-end - l._turn) l.found.items l.scope (spot_of l.spot) ≡ all_items_at (set_item_at (written l.table l.inner.0) (reads l.table l.inner.0)) (set_of_done (written l.table l.inner.0)) [] l.scope (spot_of l.fn.spot);
}

abbrev pub decreases-sequence : goal.decreases-sequence
decreases-sequence l = 8 * l.of.0 + 5

abbrev pub decreases-parts_of : goal.decreases-parts_of
decreases-parts_of l = 8 * l.of.0 + 4

abbrev pub decreases-part_of : goal.decreases-part_of
decreases-part_of l = 8 * l.of.0 + 3

abbrev pub invariant-choice-loop-which : goal.invariant-choice-loop-which
invariant-choice-loop-which l =
    choice_at (begins l.table) (reads l.table) l.which (drop l.which l.alternatives) l.scope (opened_of l.opened) (spot_of l.spot)
    ≡ choice_at (begins l.table) (reads l.table) 0 l.alternatives l.scope (opened_of l.opened) (spot_of l.spot)

abbrev pub decreases-part_begun : goal.decreases-part_begun
decreases-part_begun l = 8 * l.of.0 + 1

abbrev pub decreases-set : goal.decreases-set
decreases-set l = 8 * l.of.0 + 5

abbrev pub decreases-slots : goal.decreases-slots
decreases-slots l = 8 * l.of.0 + 4

abbrev pub decreases-slot : goal.decreases-slot
decreases-slot l = 8 * l.of.0 + 3

abbrev pub decreases-ordered : goal.decreases-ordered
decreases-ordered l = 8 * l.of.0 + 2

abbrev pub decreases-late : goal.decreases-late
decreases-late l = 8 * l.of.0 + 1

abbrev pub invariant-slots-loop-turn : goal.invariant-slots-loop-turn
invariant-slots-loop-turn l = record {
  onward : GoesOn l.fn.spot.place (length l.fn.spot.rest.now) l.spot;
  slots : length l.found.items ≡ length l.parts;
  so_far : items_at (slot_at (begins l.table) (reads l.table) 0 l.parts) (set_done l.parts) (l._turn-end - l._turn) (record { found = l.found.items; least = l.least }) l.scope (spot_of l.spot)
      ≡ all_items_at (slot_at (begins l.table) (reads l.table) 0 l.parts) (set_done l.parts) (nothing_filled l.parts) l.scope (spot_of l.fn.spot);
}

abbrev pub invariant-slot-loop-which : goal.invariant-slot-loop-which
invariant-slot-loop-which l =
    slot_at (begins l.table) (reads l.table) l.which (drop l.which l.parts) (record { found = l.found; least = l.least }) l.scope (opened_of l.opened) (spot_of l.spot)
    ≡ slot_at (begins l.table) (reads l.table) 0 l.parts (record { found = l.found; least = l.least }) l.scope (opened_of l.opened) (spot_of l.spot)

abbrev pub invariant-parts_of-loop-alloc : goal.invariant-parts_of-loop-alloc
invariant-parts_of-loop-alloc l = record {
  onward : GoesOn l.fn.spot.place (length l.fn.spot.rest.now) l.spot;
  few : vec_len l.found ≤ length l.parts;
  room : vec_capacity l.found ≡ length l.parts;
  so_far : parts_behind l.found.items (parts_from (begins l.table) (reads l.table) l.scope (spot_of l.spot) (drop (vec_len l.found) l.parts)) ≡ parts_from (begins l.table) (reads l.table) l.scope (spot_of l.fn.spot) l.parts;
}

abbrev pub decreases-parts_of-loop-alloc : goal.decreases-parts_of-loop-alloc
decreases-parts_of-loop-alloc l = length l.parts - vec_len l.found
