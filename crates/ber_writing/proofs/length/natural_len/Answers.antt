use Rattle.std.proofs.Common.{arith}
use Rattle.ber_writing.proofs.Counts.{nat_more, nat_one, natural_few, natural_nine}
use Rattle.ber_writing.proofs.length.natural_len.Goals as goal

pub overflow_add-count : goal.overflow_add-count
overflow_add-count c = omega (arith, nat_more c.loop-high.high c.loop-high-test.true, natural_few c.args.number)

pub loop-high-preserved : goal.loop-high-preserved
loop-high-preserved c = omega (arith, nat_more c.loop-high.high c.loop-high-test.true)

pub returns-clause-length : goal.returns-clause-length
returns-clause-length c = omega (arith, nat_one c.loop-high.high c.loop-high-test.false)

pub returns-clause-few : goal.returns-clause-few
returns-clause-few c = omega (arith, nat_one c.loop-high.high c.loop-high-test.false, natural_nine c.args.number (omega arith))
