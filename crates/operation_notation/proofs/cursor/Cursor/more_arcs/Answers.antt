use Rattle.std.proofs.Common.{◌-◌, ◌∷◌, [], length, ap, sym, arith}
use Rattle.std.proofs.lemmas.List.{length-append}
use Rattle.std.proofs.lemmas.Result.{err_from_is_err_and}
use Rattle.operation_notation.proofs.Loops.{counted_goes, counted_stops, counted_done, counted_fails}
use Rattle.operation_notation.proofs.cursor.Cursor.more_arcs.Goals as goal

pub returns-then-not-goes_on-clause-gives : goal.returns-then-not-goes_on-clause-gives
returns-then-not-goes_on-clause-gives c = counted_stops _ _ c.loop.arcs (30 - c.loop.counter) c.loop.self _ c.loop.invariant.so_far (sym c.if-not-goes_on.ensures)

pub returns-in_err-arc-clause-gives : goal.returns-in_err-arc-clause-gives
returns-in_err-arc-clause-gives c =
    let p = err_from_is_err_and c.from_residual.result c.from_residual.ensures.1 in
    rw (p.1, p.2) (counted_fails _ _ c.loop.arcs 30 c.loop.counter c.loop.self _ _ _ c.loop-test.true c.loop.invariant.so_far (sym c.if-not-goes_on.ensures) c.in_err-arc.ensures.gives)

pub loop-preserved : goal.loop-preserved
loop-preserved c = record {
  so_far = rw c.in_ok-push.ensures.ok (counted_goes _ _ c.loop.arcs 30 c.loop.counter c.loop.self _ _ _ c.loop-test.true c.loop.invariant.so_far (sym c.if-not-goes_on.ensures) c.in_ok-arc.ensures.gives);
  counted = omega (arith, ap length c.in_ok-push.ensures.ok, length-append c.loop.arcs (c.in_ok-arc.field-0 ∷ []));
  shorter = omega (arith, c.in_ok-arc.ensures.takes.always);
}

pub returns-clause-gives : goal.returns-clause-gives
returns-clause-gives c = counted_done _ _ c.loop.arcs (30 - c.loop.counter) c.loop.self _ c.loop.invariant.so_far (omega arith)
