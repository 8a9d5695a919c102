use Rattle.std.proofs.Common.{◌≡◌, ◌++◌, drop, map}
use Rattle.association_reading.specs.Places as reading
use Rattle.pdv_places.specs.Seen.{spot_of, HaveSmallPlaces}
use Rattle.pdv_places.proofs.places.push_beginning.Given as goal

abbrev pub invariant-loop-spot : goal.invariant-loop-spot
invariant-loop-spot l = record { rest : map spot_of l.found.items ++ reading.beginning_with l.first (map spot_of (drop l.spot-index l.spots)) ≡ map spot_of l.initial.found.items ++ reading.beginning_with l.first (map spot_of l.spots); fit : HaveSmallPlaces (drop l.spot-index l.spots); found : HaveSmallPlaces l.found.items }
