use Rattle.std.proofs.Common.{◌<◌, arith}
use Rattle.spdu_codec.proofs.NumeralLaws.{digit_pushed}
use Rattle.spdu_codec.proofs.spelling.+push_digits.Goals as goal

pub returns : goal.returns
returns t c =
    let some : 0 < c.args.number = (let e = c.if-number-eq0.false in grind arith) in
    rw (c.in_ok-push.ensures.ok, c.in_ok-push_digits.ensures) (digit_pushed c.args.out.now c.args.number some)
