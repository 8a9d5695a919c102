use Rattle.std.proofs.Common.{arith}
use Rattle.ber_writing.proofs.Counts.{base_256_is, low_more}
use Rattle.ber_spelling.proofs.Digits.{base_256_few}
use Rattle.ber_writing.proofs.length.base_256_len.Goals as goal

pub loop-high-init : goal.loop-high-init
loop-high-init c = omega (arith, base_256_is c.args.number)

pub overflow_add-count : goal.overflow_add-count
overflow_add-count c = omega (arith, low_more c.loop-high.high c.loop-high-test.true, base_256_few c.args.number (omega arith))

pub loop-high-preserved : goal.loop-high-preserved
loop-high-preserved c = omega (arith, low_more c.loop-high.high c.loop-high-test.true)
