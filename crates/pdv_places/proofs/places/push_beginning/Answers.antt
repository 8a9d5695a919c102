use Rattle.std.proofs.Common.{arith}
use Rattle.pdv_places.proofs.Fitting.{begin_step, fit_rest}
use Rattle.pdv_places.proofs.places.push_beginning.Goals as goal

pub loop-spot-preserved : goal.loop-spot-preserved
loop-spot-preserved c = record {
  rest = begin_step c.args.first c.args.spots.now c.loop-spot.spot-index _ c.loop-spot.found.items c.push_if.new.found.items _ (omega arith) c.in_ok-push_if.ensures.is c.loop-spot.invariant.rest;
  fit = fit_rest c.args.spots.now c.loop-spot.spot-index c.loop-spot.invariant.fit;
  found = c.in_ok-push_if.ensures.fit;
}
