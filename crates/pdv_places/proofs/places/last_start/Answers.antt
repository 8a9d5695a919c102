use Rattle.std.proofs.Common.{◌≡◌, ◌∙◌, List, [], drop, map, sym, ap, arith}
use Rattle.std.proofs.lemmas.List.{drop_all}
use Rattle.pdv_places.specs.declared.spots.Spot.{Spot}
use Rattle.pdv_places.specs.Seen.{spot_of}
use Rattle.pdv_places.proofs.Fitting.{last_or, last_is}
use Rattle.pdv_places.proofs.places.last_start.Goals as goal

pub returns : goal.returns
returns c =
    let done : drop c.loop-spot.spot-index c.args.spots.now ≡ [] = drop_all c.loop-spot.spot-index c.args.spots.now (omega arith) in
    ap (λ (xs : List Spot). last_or c.loop-spot.start (map spot_of xs)) (sym done) ∙ c.loop-spot.invariant ∙ last_is (map spot_of c.args.spots.now)
