use Rattle.std.proofs.Common.{◌≡◌, ◌-◌, length}
use Rattle.ber_spelling.specs.Reading.{spot_of, GoesOn}
use Rattle.ber_spelling.specs.Rules.{items_at}
use Rattle.passed_fields.specs.Reading.{field_at, fields_done, fields_at}
use Rattle.passed_fields.proofs.reading.all_fields.Given as goal

abbrev pub invariant-loop-turn : goal.invariant-loop-turn
invariant-loop-turn l = record {
  onward : GoesOn l.fn.spot.place (length l.fn.spot.rest.now) l.spot;
  so_far : items_at (field_at l.table l.fields.known.now l.fields.passed.now) (fields_done l.fields.known.now) (l._turn-end - l._turn) l.found.items l.scope (spot_of l.spot) ≡ fields_at l.table l.fields.known.now l.fields.passed.now l.scope (spot_of l.fn.spot);
}
