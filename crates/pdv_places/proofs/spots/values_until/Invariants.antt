use Rattle.std.proofs.Common.{◌≡◌, ◌-◌, ◌++◌, map}
use Rattle.association_reading.specs.Places as reading
use Rattle.pdv_places.specs.Seen.{spot_of, HasSmallPlaces, HaveSmallPlaces}
use Rattle.pdv_places.proofs.spots.values_until.Given as goal

abbrev pub invariant-loop-turn : goal.invariant-loop-turn
invariant-loop-turn l = record { going : map spot_of l.values.items ++ reading.values_until (l.turns - l._turn) l.left (spot_of l.at) ≡ reading.values_until l.turns l.left (spot_of l.spot); fits : HasSmallPlaces l.at; all : HaveSmallPlaces l.values.items }
