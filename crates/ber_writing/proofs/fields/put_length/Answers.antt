use Rattle.std.proofs.Common.{arith}
use Rattle.ber_spelling.proofs.Digits.{base_256_few}
use Rattle.ber_writing.proofs.fields.put_length.Goals as goal

pub overflow_cast-end : goal.overflow_cast-end
overflow_cast-end c = omega (arith, base_256_few c.args.count (omega arith))

pub overflow_add-end : goal.overflow_add-end
overflow_add-end c = omega (arith, base_256_few c.args.count (omega arith))
