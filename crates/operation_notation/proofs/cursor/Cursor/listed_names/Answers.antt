use Rattle.std.proofs.Common.{sym, ◌∙◌, refl}
use Rattle.std.proofs.lemmas.Result.{err_from_is_err_and}
use Rattle.operation_notation.proofs.Loops.{stops, fails}
use Rattle.operation_notation.proofs.cursor.Cursor.listed_names.Goals as goal

pub returns-in_err-next_name-clause-gives : goal.returns-in_err-next_name-clause-gives
returns-in_err-next_name-clause-gives c =
    let p = err_from_is_err_and c.from_residual-in_err-next_name.result c.from_residual-in_err-next_name.ensures.1 in
    rw (p.1, p.2) (fails _ _ c.loop-alloc.names c.loop-alloc.self _ _ _ c.loop-alloc.invariant.going refl (sym c.is.ensures ∙ c.loop-alloc-test.true) c.in_err-next_name.ensures.gives)

pub returns-clause-gives : goal.returns-clause-gives
returns-clause-gives c = stops _ _ c.loop-alloc.names c.loop-alloc.self _ c.loop-alloc.invariant.going (sym c.is.ensures ∙ c.loop-alloc-test.false)
