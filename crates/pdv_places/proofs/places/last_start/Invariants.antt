use Rattle.std.proofs.Common.{◌≡◌, drop, map}
use Rattle.pdv_places.specs.Seen.{spot_of}
use Rattle.pdv_places.proofs.Fitting.{last_or}
use Rattle.pdv_places.proofs.places.last_start.Given as goal

abbrev pub invariant-loop-spot : goal.invariant-loop-spot
invariant-loop-spot l = last_or l.start (map spot_of (drop l.spot-index l.spots)) ≡ last_or 0 (map spot_of l.spots)
