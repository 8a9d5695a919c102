use Rattle.std.proofs.Common.{List, ◌++◌, map, ap, ◌∙◌, arith}
use Rattle.ber_spelling.specs.Reading as readings
use Rattle.association_reading.specs.Places as reading
use Rattle.pdv_places.specs.declared.spots.Spot.{Spot}
use Rattle.pdv_places.specs.Seen.{spot_of}
use Rattle.pdv_places.proofs.Fitting.{flat_step, fit_rest}
use Rattle.pdv_places.proofs.places.all_values.Goals as goal

pub loop-spot-preserved : goal.loop-spot-preserved
loop-spot-preserved c = record {
  rest =
      flat_step reading.values_in c.args.spots.now c.loop-spot.spot-index _ c.loop-spot.all.items c.push_all.new.all.items _ (omega arith)
      (c.in_ok-push_all.ensures.is ∙ ap (λ (ys : List Spot). map spot_of c.loop-spot.all.items ++ map spot_of ys) c.deref.ensures.value ∙ ap (λ (ss : List readings.Spot). map spot_of c.loop-spot.all.items ++ ss) c.in_ok-values.ensures.is) c.loop-spot.invariant.rest;
  fit = fit_rest c.args.spots.now c.loop-spot.spot-index c.loop-spot.invariant.fit;
  found = c.in_ok-push_all.ensures.fit;
}
