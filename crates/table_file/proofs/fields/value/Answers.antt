use Rattle.table_file.proofs.Places.{near}
use Rattle.table_file.proofs.fields.value.Goals as goal

pub stop_of-requires : goal.stop_of-requires
stop_of-requires c = near c.fault_is_first.ensures _ _ _ c.args.spot.rest.now c.args.spot.place c.in-Err.fault c.args.spot.whole c.in-Err.ensures.exact
