use Rattle.std.proofs.Common.{arith}
use Rattle.ber_writing.proofs.Counts.{base_128_more, base_128_few, high_more}
use Rattle.ber_writing.proofs.length.base_128_len.Goals as goal

pub loop-high-init : goal.loop-high-init
loop-high-init c = omega (arith, base_128_more c.args.number)

pub overflow_add-count : goal.overflow_add-count
overflow_add-count c = omega (arith, high_more c.loop-high.high c.loop-high-test.true, base_128_few c.args.number)

pub loop-high-preserved : goal.loop-high-preserved
loop-high-preserved c = omega (arith, high_more c.loop-high.high c.loop-high-test.true)
