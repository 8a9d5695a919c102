use Rattle.std.proofs.Common.{◌≡◌, drop, map}
use Rattle.association_reading.specs.Places as reading
use Rattle.pdv_places.specs.Seen.{spot_of, HaveSmallPlaces}
use Rattle.pdv_places.proofs.places.first_contents.Given as goal

abbrev pub invariant-loop-spot : goal.invariant-loop-spot
invariant-loop-spot l = record { rest : reading.first_contents (reading.beginning_with l.first (map spot_of (drop l.spot-index l.spots))) ≡ reading.first_contents (reading.beginning_with l.first (map spot_of l.spots)); fit : HaveSmallPlaces (drop l.spot-index l.spots) }
