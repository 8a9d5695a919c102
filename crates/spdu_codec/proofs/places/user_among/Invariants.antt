use Rattle.std.proofs.Common.{◌≡◌, ◌≤◌, None, length}
use Rattle.spdu_codec.proofs.PlaceLoop.{among}
use Rattle.spdu_codec.proofs.places.user_among.Given as goal

abbrev pub invariant-loop-code : goal.invariant-loop-code
invariant-loop-code l = record {
  within : length l.rest ≤ length l.octets;
  reads : among l.table l.end l.at l.rest ≡ among l.table l.end None l.octets;
}

abbrev pub decreases-loop-code : goal.decreases-loop-code
decreases-loop-code l = length l.rest
