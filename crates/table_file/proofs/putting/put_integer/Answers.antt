use Rattle.table_file.proofs.Sizes.{integer_room}
use Rattle.table_file.proofs.putting.put_integer.Goals as goal

pub put_value-requires : goal.put_value-requires
put_value-requires c = integer_room c.args.types.now _ c.requires
