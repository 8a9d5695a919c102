use Rattle.std.proofs.Common.{sym, ◌∙◌, refl}
use Rattle.std.proofs.lemmas.Result.{err_from_is_err_and}
use Rattle.operation_notation.proofs.Loops.{stops, fails}
use Rattle.operation_notation.proofs.cursor.Cursor.+types.Goals as goal

pub listed_parts-returns-in_err-next_part-clause-gives : goal.listed_parts-returns-in_err-next_part-clause-gives
listed_parts-returns-in_err-next_part-clause-gives t c =
    let p = err_from_is_err_and c.from_residual-in_err-next_part.result c.from_residual-in_err-next_part.ensures.1 in
    rw (p.1, p.2) (fails _ _ c.loop-alloc.parts c.loop-alloc.self _ _ _ c.loop-alloc.invariant.going refl (sym c.is.ensures ∙ c.loop-alloc-test.true) c.in_err-next_part.ensures.gives)

pub listed_parts-returns-clause-gives : goal.listed_parts-returns-clause-gives
listed_parts-returns-clause-gives t c = stops _ _ c.loop-alloc.parts c.loop-alloc.self _ c.loop-alloc.invariant.going (sym c.is.ensures ∙ c.loop-alloc-test.false)
