use Rattle.std.proofs.Common.{arith}
use Rattle.ber_spelling.proofs.Digits.{base_256_few}
use Rattle.ber_writing.proofs.length.length_len.Goals as goal

pub overflow_add-result : goal.overflow_add-result
overflow_add-result c = omega (arith, base_256_few c.args.count (omega arith))

pub returns-clause-few : goal.returns-clause-few
returns-clause-few c = omega (arith, base_256_few c.args.count (omega arith))
