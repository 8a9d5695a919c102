use Rattle.std.proofs.Common.{◌≡◌, ◌++◌, drop, map}
use Rattle.std.specs.List.{flat_map}
use Rattle.pdv_places.specs.Seen.{spot_of, HaveSmallPlaces, user_data_of}
use Rattle.pdv_places.proofs.places.user_data_in.Given as goal

abbrev pub invariant-loop-spot : goal.invariant-loop-spot
invariant-loop-spot l = record { rest : map spot_of l.found.items ++ flat_map user_data_of (map spot_of (drop l.spot-index l.spots)) ≡ flat_map user_data_of (map spot_of l.spots); fit : HaveSmallPlaces (drop l.spot-index l.spots); found : HaveSmallPlaces l.found.items }
