use Rattle.std.proofs.Common.{arith}
use Rattle.ber_writing.proofs.Counts.{subidentifier_few}
use Rattle.ber_writing.proofs.pieces.digits_compared.Goals as goal

pub put_base_128-requires-clause-end : goal.put_base_128-requires-clause-end
put_base_128-requires-clause-end c = omega (arith, subidentifier_few c.args.a c.requires.a)

pub put_base_128-requires-2-clause-end : goal.put_base_128-requires-2-clause-end
put_base_128-requires-2-clause-end c = omega (arith, subidentifier_few c.args.b c.requires.b)
