use Rattle.std.proofs.Common.{◌≡◌, ◌++◌, drop, map}
use Rattle.pdv_places.specs.Seen.{spot_of, HaveSmallPlaces}
use Rattle.pdv_places.proofs.places.push_all.Given as goal

abbrev pub invariant-loop-spot : goal.invariant-loop-spot
invariant-loop-spot l = record { rest : map spot_of l.all.items ++ map spot_of (drop l.spot-index l.spots) ≡ map spot_of l.initial.all.items ++ map spot_of l.spots; fit : HaveSmallPlaces (drop l.spot-index l.spots); found : HaveSmallPlaces l.all.items }
