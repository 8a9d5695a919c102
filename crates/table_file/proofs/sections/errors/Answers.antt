use Rattle.std.proofs.Common.{◌+◌, [], ap, ◌∙◌, refl}
use Rattle.std.proofs.lemmas.Result.{err_from_is_err_and}
use Rattle.table_file.specs.Reading.{spot_of}
use Rattle.table_file.specs.Sections.{adds_error}
use Rattle.table_file.proofs.Folding.{uncounted, goes_first, goes_on, goes_wrong, goes_out}
use Rattle.table_file.proofs.sections.errors.Goals as goal

pub returns-in_err-number-clause-gives : goal.returns-in_err-number-clause-gives
returns-in_err-number-clause-gives c =
    let p = err_from_is_err_and c.from_residual.result c.from_residual.ensures.1 in
    rw (p.1, p.2) (uncounted (λ n. adds_error c.args.types.now) [] (spot_of c.args.spot) _ c.in_err-number.ensures)

pub loop-index-init : goal.loop-index-init
loop-index-init c = record {
  goes = rw c.new-errors.ensures (goes_first (λ n. adds_error c.args.types.now) c.in_ok-number.number [] (spot_of c.args.spot) (spot_of c.in_ok-number.behind) c.in_ok-number.ensures);
  names = rw c.new-errors.ensures c.requires.names;
  codes = rw c.new-errors.ensures c.new-codes.ensures;
  own = rw c.new-errors.ensures refl;
  count = rw c.new-errors.ensures refl;
}

pub loop-index-preserved : goal.loop-index-preserved
loop-index-preserved c = record {
  goes = goes_on (λ n. adds_error c.args.types.now) [] (spot_of c.args.spot) c.in_ok-number.number c.loop-index._index c.loop-index.errors _ (spot_of c.loop-index.spot) (spot_of c.in_ok-next.next) c.loop-index.invariant.goes c.loop-index-test.true c.in_ok-next.ensures.gives;
  names = c.in_ok-next.ensures.names;
  codes = c.in_ok-next.ensures.codes;
  own = c.in_ok-next.ensures.own c.loop-index.invariant.own;
  count = c.in_ok-next.ensures.count ∙ ap (λ n. n + 1) c.loop-index.invariant.count;
}

pub returns-in_err-next-clause-gives : goal.returns-in_err-next-clause-gives
returns-in_err-next-clause-gives c =
    let p = err_from_is_err_and c.from_residual-in_err-next.result c.from_residual-in_err-next.ensures.1 in
    rw (p.1, p.2) (goes_wrong (λ n. adds_error c.args.types.now) [] (spot_of c.args.spot) c.in_ok-number.number c.loop-index._index c.loop-index.errors (spot_of c.loop-index.spot) _ c.loop-index.invariant.goes c.loop-index-test.true c.in_err-next.ensures.gives)

pub returns-clause-gives : goal.returns-clause-gives
returns-clause-gives c = goes_out (λ n. adds_error c.args.types.now) [] (spot_of c.args.spot) c.in_ok-number.number c.loop-index._index c.loop-index.errors (spot_of c.loop-index.spot) c.loop-index.invariant.goes c.loop-index-test.false
