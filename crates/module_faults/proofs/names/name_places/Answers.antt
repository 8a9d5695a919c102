use Rattle.module_faults.proofs.FoundNames.{found_none, found_step}
use Rattle.module_faults.proofs.names.name_places.Goals as goal

pub loop-place-init : goal.loop-place-init
loop-place-init c = found_none c.new-places.result c.new-places.ensures.empty

pub loop-place-preserved : goal.loop-place-preserved
loop-place-preserved c =
    found_step c.args.assignments.now c.loop-place.place c.index-assignments-place.result c.loop-place.places c.add_place.new.places c.as_str-name.result.now c.in_ok-number.number c.loop-place-test.true c.index-assignments-place.is c.as_str-name.ensures c.in_ok-number.ensures.place c.loop-place.invariant c.in_ok-add_place.ensures
