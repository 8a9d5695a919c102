use Rattle.table_file.proofs.Sizes.{oid_room}
use Rattle.table_file.proofs.putting.put_oid.Goals as goal

pub put_value-requires : goal.put_value-requires
put_value-requires c = oid_room c.args.types.now _ c.requires (rw c.in_ok-copy.ensures c.arcs-arcs.ensures.one)
