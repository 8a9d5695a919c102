use Rattle.std.proofs.Common.{◌≡◌, ◌-◌, length}
use Rattle.ber_spelling.specs.Reading.{spot_of, GoesOn}
use Rattle.ber_spelling.specs.Rules.{items_at, list_item_at, reads}
use Rattle.passed_fields.specs.Reading.{some_done, some_items_at}
use Rattle.passed_fields.proofs.reading.some_items.Given as goal

abbrev pub invariant-loop-turn : goal.invariant-loop-turn
invariant-loop-turn l = record {
  onward : GoesOn l.fn.spot.place (length l.fn.spot.rest.now) l.spot;
  so_far : items_at (list_item_at (reads l.table l.of.0)) some_done (l._turn-end - l._turn) l.found.items l.scope (spot_of l.spot) ≡ some_items_at (reads l.table l.of.0) l.scope (spot_of l.fn.spot);
}
