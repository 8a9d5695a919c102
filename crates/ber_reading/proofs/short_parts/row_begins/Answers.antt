use Rattle.std.proofs.Common.{rules}
use Rattle.ber_reading.proofs.ShortParts.{begins_by}
use Rattle.ber_reading.proofs.short_parts.row_begins.Goals as goal

pub returns-then-same_class : goal.returns-then-same_class
returns-then-same_class c =
    let h = begins_by c.args.table.now c.requires.row.sound c.args.of.0 c.args.row.now c.requires.row.found c.args.class c.args.number in
    search rules

pub returns-else-same_class : goal.returns-else-same_class
returns-else-same_class c =
    let h = begins_by c.args.table.now c.requires.row.sound c.args.of.0 c.args.row.now c.requires.row.found c.args.class c.args.number in
    search rules
