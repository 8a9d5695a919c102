use Rattle.std.proofs.Common.{◌≡◌, ◌+◌, ◌-◌, ◌*◌, length, Some}
use Rattle.ber_spelling.specs.Reading.{GoesOn, spot_of}
use Rattle.ber_spelling.specs.Rules.{whole_at, items_at, all_items_at}
use Rattle.ber_spelling.proofs.whole.+wholes.Given as goal

abbrev pub decreases-whole_values : goal.decreases-whole_values
decreases-whole_values l = 3 * l.levels + 1

abbrev pub decreases-marked : goal.decreases-marked
decreases-marked l = 3 * l.levels + 2

abbrev pub decreases-whole_value : goal.decreases-whole_value
decreases-whole_value l = 3 * l.levels

abbrev pub invariant-whole_values-loop-turn : goal.invariant-whole_values-loop-turn
invariant-whole_values-loop-turn l = record {
  onward : GoesOn l.fn.spot.place (length l.fn.spot.rest.now) l.spot;
  so_far : items_at (whole_at l.levels) (λ u. Some u) (l._turn-end - l._turn) tt l.scope (spot_of l.spot) ≡ all_items_at (whole_at l.levels) (λ u. Some u) tt l.scope (spot_of l.fn.spot);
}
