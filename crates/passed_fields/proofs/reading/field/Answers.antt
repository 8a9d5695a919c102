use Rattle.passed_fields.proofs.Nones.{rows_behind}
use Rattle.passed_fields.proofs.reading.field.Goals as goal

pub known-requires-clause-rows : goal.known-requires-clause-rows
known-requires-clause-rows c = rw c.behind-next.ensures (rows_behind c.args.table.now c.args.fields.now.known.now c.len-in-None.result c.requires.rows)
