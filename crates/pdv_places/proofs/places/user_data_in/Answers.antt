use Rattle.std.proofs.Common.{List, ◌++◌, map, ap, ◌∙◌, arith}
use Rattle.ber_spelling.specs.Reading as readings
use Rattle.association_reading.specs.Places as reading
use Rattle.pdv_places.specs.declared.spots.Spot.{Spot}
use Rattle.pdv_places.specs.Seen.{spot_of, user_data_of}
use Rattle.pdv_places.proofs.Fitting.{flat_step, fit_rest}
use Rattle.pdv_places.proofs.places.user_data_in.Goals as goal

pub loop-spot-preserved : goal.loop-spot-preserved
loop-spot-preserved c = record {
  rest =
      flat_step user_data_of c.args.spots.now c.loop-spot.spot-index _ c.loop-spot.found.items c.push_beginning.new.found.items _ (omega arith)
      (c.in_ok-push_beginning.ensures.is ∙ ap (λ (ys : List Spot). map spot_of c.loop-spot.found.items ++ reading.beginning_with 97 (map spot_of ys)) c.deref.ensures.value ∙ ap (λ (ss : List readings.Spot). map spot_of c.loop-spot.found.items ++ reading.beginning_with 97 ss) c.in_ok-values.ensures.is) c.loop-spot.invariant.rest;
  fit = fit_rest c.args.spots.now c.loop-spot.spot-index c.loop-spot.invariant.fit;
  found = c.in_ok-push_beginning.ensures.fit;
}
