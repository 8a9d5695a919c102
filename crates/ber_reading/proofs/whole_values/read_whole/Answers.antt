use Rattle.std.proofs.Common.{arith}
use Rattle.ber_reading.proofs.Calls.{is_found, is_only}
use Rattle.ber_reading.proofs.whole_values.read_whole.Goals as goal

pub returns-clause-found : goal.returns-clause-found
returns-clause-found c = is_found c.args.table.now c.args.of.0 c.args.strict c.args.limit c.args.bytes.now c.read_all.result (record { each = λ i. omega (arith, c.type_inv.bytes i) }) c.read_all.ensures.exact

pub returns-clause-only : goal.returns-clause-only
returns-clause-only c = is_only c.args.table.now c.args.of.0 c.args.strict c.args.limit c.args.bytes.now c.read_all.result c.len-rows.ensures.sound c.read_all.ensures.exact
