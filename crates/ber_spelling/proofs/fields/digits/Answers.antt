use Rattle.std.proofs.Common.{arith, drop}
use Rattle.std.proofs.lemmas.List.{length-drop}
use Rattle.std.proofs.lemmas.Result.{err_from_is_err_and}
use Rattle.ber_spelling.proofs.Steps.{digits_cut, FailsWith-same}
use Rattle.ber_spelling.proofs.fields.digits.Goals as goal

pub returns-in_err-check_within-clause-gives : goal.returns-in_err-check_within-clause-gives
returns-in_err-check_within-clause-gives c =
    let p = err_from_is_err_and c.from_residual.result c.from_residual.ensures.1 in
    rw (p.1, p.2) (FailsWith-same _ _ _ c.loop-index.invariant.so_far (digits_cut _ _ _ _ _ _ (drop c.loop-index.index c.args.digits.now) (omega (arith, length-drop c.loop-index.index c.args.digits.now, c.loop-index-test.true)) (omega arith) c.in_err-check_within.ensures.gives))
