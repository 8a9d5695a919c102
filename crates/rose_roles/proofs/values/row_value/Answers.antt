use Rattle.std.proofs.Common.{length}
use Rattle.end_wire.specs.Heads.{room_in}
use Rattle.rose_roles.proofs.Rows.{no_row, not_there}
use Rattle.rose_roles.proofs.values.row_value.Goals as goal

pub returns-else-has : goal.returns-else-has
returns-else-has c = λ value p.
    absurd (no_row c.args.syntax c.args.types.now (room_in c.args.syntax c.args.room) c.args.of.0 value c.args.octets.now (not_there c.has.result c.args.of.0 (length c.args.types.now) c.has.ensures c.if-has.false) p)
