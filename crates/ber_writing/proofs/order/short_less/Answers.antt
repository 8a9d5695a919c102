use Rattle.std.proofs.Common.{arith}
use Rattle.ber_writing.proofs.ComparedLaws.{told_so}
use Rattle.ber_writing.proofs.order.short_less.Goals as goal

pub returns : goal.returns
returns c = λ xs ys h. told_so c.args.told xs ys c.is_lt.result h (omega arith) (omega arith) c.is_lt.ensures
