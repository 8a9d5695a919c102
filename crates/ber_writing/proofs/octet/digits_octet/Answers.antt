use Rattle.std.proofs.Common.{arith}
use Rattle.ber_writing.proofs.Counts.{subidentifier_few}
use Rattle.ber_writing.proofs.octet.digits_octet.Goals as goal

pub put_base_128-requires-clause-end : goal.put_base_128-requires-clause-end
put_base_128-requires-clause-end c = omega (arith, subidentifier_few c.args.number c.requires)
