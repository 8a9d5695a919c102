use Rattle.std.proofs.Common.{subst, sym, arith}
use Rattle.pdv_places.specs.Seen.{HaveSmallPlaces}
use Rattle.pdv_places.proofs.Fitting.{taken, all_step, fit_on, fit_first, fit_rest}
use Rattle.pdv_places.proofs.places.push_all.Goals as goal

pub loop-spot-preserved : goal.loop-spot-preserved
loop-spot-preserved c =
    let items = taken c.push.result _ _ _ _ c.in_ok-push.was c.push.ensures.items in
    record {
      rest = all_step c.args.spots.now c.loop-spot.spot-index _ c.loop-spot.all.items c.push.new.self.items _ (omega arith) items c.loop-spot.invariant.rest;
      fit = fit_rest c.args.spots.now c.loop-spot.spot-index c.loop-spot.invariant.fit;
      found = subst HaveSmallPlaces (sym items) (fit_on c.loop-spot.all.items _ c.loop-spot.invariant.found (fit_first c.args.spots.now c.loop-spot.spot-index _ (omega arith) c.loop-spot.invariant.fit));
    }
