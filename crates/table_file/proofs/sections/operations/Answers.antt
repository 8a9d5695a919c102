use Rattle.std.proofs.Common.{◌≡◌, ◌+◌, Bool, true, false, [], ap, ◌∙◌, refl}
use Rattle.std.specs.Prelude.{◌||◌}
use Rattle.std.proofs.lemmas.Result.{err_from_is_err_and}
use Rattle.table_file.specs.Reading.{spot_of}
use Rattle.table_file.specs.Sections.{adds_operation, error_named}
use Rattle.table_file.proofs.Folding.{uncounted, goes_first, goes_on, goes_wrong, goes_out}
use Rattle.table_file.proofs.sections.operations.Goals as goal

or_none : (b : Bool) → b ≡ (b || false)
or_none true = refl
or_none false = refl

pub returns-in_err-count-clause-gives : goal.returns-in_err-count-clause-gives
returns-in_err-count-clause-gives c =
    let p = err_from_is_err_and c.from_residual.result c.from_residual.ensures.1 in
    rw (p.1, p.2) (uncounted (adds_operation c.args.types.now c.args.errors.now) [] (spot_of c.args.spot) _ c.in_err-count.ensures)

pub loop-index-init : goal.loop-index-init
loop-index-init c = record {
  goes = rw c.new-operations.ensures (goes_first (adds_operation c.args.types.now c.args.errors.now) c.in_ok-count.count [] (spot_of c.args.spot) (spot_of c.in_ok-count.behind) c.in_ok-count.ensures);
  names = rw c.new-operations.ensures (λ name. c.requires.names name ∙ or_none (error_named c.args.errors.now name));
  codes = rw c.new-operations.ensures c.new-codes.ensures;
  own = rw c.new-operations.ensures refl;
  count = rw c.new-operations.ensures refl;
}

pub loop-index-preserved : goal.loop-index-preserved
loop-index-preserved c = record {
  goes = goes_on (adds_operation c.args.types.now c.args.errors.now) [] (spot_of c.args.spot) c.in_ok-count.count c.loop-index._index c.loop-index.operations _ (spot_of c.loop-index.spot) (spot_of c.in_ok-next.next) c.loop-index.invariant.goes c.loop-index-test.true c.in_ok-next.ensures.gives;
  names = c.in_ok-next.ensures.names;
  codes = c.in_ok-next.ensures.codes;
  own = c.in_ok-next.ensures.own c.loop-index.invariant.own;
  count = c.in_ok-next.ensures.count ∙ ap (λ n. n + 1) c.loop-index.invariant.count;
}

pub returns-in_err-next-clause-gives : goal.returns-in_err-next-clause-gives
returns-in_err-next-clause-gives c =
    let p = err_from_is_err_and c.from_residual-in_err-next.result c.from_residual-in_err-next.ensures.1 in
    rw (p.1, p.2) (goes_wrong (adds_operation c.args.types.now c.args.errors.now) [] (spot_of c.args.spot) c.in_ok-count.count c.loop-index._index c.loop-index.operations (spot_of c.loop-index.spot) _ c.loop-index.invariant.goes c.loop-index-test.true c.in_err-next.ensures.gives)

pub returns-clause-gives : goal.returns-clause-gives
returns-clause-gives c = goes_out (adds_operation c.args.types.now c.args.errors.now) [] (spot_of c.args.spot) c.in_ok-count.count c.loop-index._index c.loop-index.operations (spot_of c.loop-index.spot) c.loop-index.invariant.goes c.loop-index-test.false
