use Rattle.std.proofs.Common.{◌≡◌, ◌-◌, length}
use Rattle.ber_spelling.specs.Reading.{spot_of, GoesOn}
use Rattle.ber_spelling.specs.Rules.{items_at, reads, plain}
use Rattle.passed_fields.specs.Reading.{fielded_at}
use Rattle.presentation_pdus.specs.Fields.{context_tag, mode_row}
use Rattle.presentation_pdus.specs.Selected.{half_at, halves_done, halves_at}
use Rattle.presentation_pdus.proofs.reading.all_halves.Given as goal

abbrev pub invariant-loop-turn : goal.invariant-loop-turn
invariant-loop-turn l = record {
  onward : GoesOn l.fn.spot.place (length l.fn.spot.rest.now) l.spot;
  so_far : items_at (half_at (reads l.table mode_row plain) (fielded_at l.table l.shape.known.now l.shape.passed.now (context_tag 2))) halves_done (l._turn-end - l._turn) l.halves l.scope (spot_of l.spot)
      ≡ halves_at (reads l.table mode_row plain) (fielded_at l.table l.shape.known.now l.shape.passed.now (context_tag 2)) l.scope (spot_of l.fn.spot);
}
