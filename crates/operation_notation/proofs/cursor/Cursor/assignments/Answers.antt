use Rattle.std.proofs.Common.{sym, ◌∙◌, refl}
use Rattle.std.proofs.lemmas.Result.{err_from_is_err_and}
use Rattle.operation_notation.specs.ReadingModules.{assignments_at}
use Rattle.operation_notation.proofs.Loops.{stops, fails}
use Rattle.operation_notation.proofs.cursor.Cursor.assignments.Goals as goal

pub returns-in_err-assignment-clause-gives : goal.returns-in_err-assignment-clause-gives
unfolding assignments_at
returns-in_err-assignment-clause-gives c =
    let p = err_from_is_err_and c.from_residual.result c.from_residual.ensures.1 in
    rw (p.1, p.2) (fails _ _ c.loop-alloc.assignments c.loop-alloc.self _ _ _ c.loop-alloc.invariant.going refl (sym c.goes_on.ensures ∙ c.loop-alloc-test.true) c.in_err-assignment.ensures.gives)

pub returns-clause-gives : goal.returns-clause-gives
unfolding assignments_at
returns-clause-gives c = stops _ _ c.loop-alloc.assignments c.loop-alloc.self _ c.loop-alloc.invariant.going (sym c.goes_on.ensures ∙ c.loop-alloc-test.false)
