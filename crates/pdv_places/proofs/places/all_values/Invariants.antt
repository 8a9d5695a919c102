use Rattle.std.proofs.Common.{◌≡◌, ◌++◌, drop, map}
use Rattle.std.specs.List.{flat_map}
use Rattle.association_reading.specs.Places as reading
use Rattle.pdv_places.specs.Seen.{spot_of, HaveSmallPlaces}
use Rattle.pdv_places.proofs.places.all_values.Given as goal

abbrev pub invariant-loop-spot : goal.invariant-loop-spot
invariant-loop-spot l = record { rest : map spot_of l.all.items ++ flat_map reading.values_in (map spot_of (drop l.spot-index l.spots)) ≡ flat_map reading.values_in (map spot_of l.spots); fit : HaveSmallPlaces (drop l.spot-index l.spots); found : HaveSmallPlaces l.all.items }
