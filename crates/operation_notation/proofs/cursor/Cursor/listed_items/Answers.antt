use Rattle.std.proofs.Common.{sym, ◌∙◌, refl}
use Rattle.std.proofs.lemmas.Result.{err_from_is_err_and}
use Rattle.operation_notation.proofs.Loops.{stops, fails}
use Rattle.operation_notation.proofs.cursor.Cursor.listed_items.Goals as goal

pub returns-in_err-next_item-clause-gives : goal.returns-in_err-next_item-clause-gives
returns-in_err-next_item-clause-gives c =
    let p = err_from_is_err_and c.from_residual-in_err-next_item.result c.from_residual-in_err-next_item.ensures.1 in
    rw (p.1, p.2) (fails _ _ c.loop-alloc.items c.loop-alloc.self _ _ _ c.loop-alloc.invariant.going refl (sym c.is.ensures ∙ c.loop-alloc-test.true) c.in_err-next_item.ensures.gives)

pub returns-clause-gives : goal.returns-clause-gives
returns-clause-gives c = stops _ _ c.loop-alloc.items c.loop-alloc.self _ c.loop-alloc.invariant.going (sym c.is.ensures ∙ c.loop-alloc-test.false)
