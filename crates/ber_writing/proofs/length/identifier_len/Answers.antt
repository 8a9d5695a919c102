use Rattle.std.proofs.Common.{arith}
use Rattle.ber_writing.proofs.Counts.{tag_few}
use Rattle.ber_writing.proofs.length.identifier_len.Goals as goal

pub overflow_add-result : goal.overflow_add-result
overflow_add-result c = omega (arith, tag_few c.args.tag.number)

pub returns-clause-few : goal.returns-clause-few
returns-clause-few c = omega (arith, tag_few c.args.tag.number)
