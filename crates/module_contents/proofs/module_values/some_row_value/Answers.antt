use Rattle.std.proofs.Common.{length}
use Rattle.end_wire.specs.Heads.{room_in}
use Rattle.module_contents.proofs.Missing.{no_row, not_there}
use Rattle.module_contents.proofs.module_values.some_row_value.Goals as goal

pub returns-else-has : goal.returns-else-has
returns-else-has c =
    no_row c.args.syntax c.args.types.now (room_in c.args.syntax c.args.room) c.args.of.0 c.args.octets.now (not_there c.has.result c.args.of.0 (length c.args.types.now) c.has.ensures c.if-has.false)
