use Rattle.std.proofs.Common.{◌≡◌, ◌+◌, ◌-◌, ◌*◌, length, Some}
use Rattle.ber_spelling.specs.Reading.{GoesOn, spot_of}
use Rattle.ber_spelling.specs.Rules.{segment_at, items_at, all_items_at}
use Rattle.ber_spelling.proofs.strings.+gathering.Given as goal

abbrev pub decreases-segments : goal.decreases-segments
decreases-segments l = 3 * l.depth + 1

abbrev pub decreases-segment : goal.decreases-segment
decreases-segment l = 3 * l.depth

abbrev pub decreases-nested : goal.decreases-nested
decreases-nested l = 3 * l.depth + 2

abbrev pub invariant-segments-loop-turn : goal.invariant-segments-loop-turn
invariant-segments-loop-turn l = record {
  onward : GoesOn l.fn.spot.place (length l.fn.spot.rest.now) l.spot;
  so_far : items_at (segment_at l.kind l.depth) (λ g. Some g) (l._turn-end - l._turn) l.gathered l.scope (spot_of l.spot) ≡ all_items_at (segment_at l.kind l.depth) (λ g. Some g) l.fn.before l.scope (spot_of l.fn.spot);
}
