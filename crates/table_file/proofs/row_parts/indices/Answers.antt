use Rattle.std.proofs.Common.{Some, []}
use Rattle.std.proofs.lemmas.Result.{err_from_is_err_and}
use Rattle.table_file.specs.Reading.{spot_of}
use Rattle.table_file.specs.RowParts.{joins, index_at}
use Rattle.table_file.proofs.Folding.{uncounted, goes_first, goes_on, goes_wrong, goes_out}
use Rattle.table_file.proofs.row_parts.indices.Goals as goal

pub returns-in_err-number : goal.returns-in_err-number
returns-in_err-number c =
    let p = err_from_is_err_and c.from_residual.result c.from_residual.ensures.1 in
    rw (p.1, p.2) (uncounted (λ n. joins (index_at c.args.most)) (Some []) (spot_of c.args.spot) _ c.in_err-number.ensures)

pub loop-index-init : goal.loop-index-init
loop-index-init c = rw c.new.ensures (goes_first (λ n. joins (index_at c.args.most)) c.in_ok-number.number (Some []) (spot_of c.args.spot) (spot_of c.in_ok-number.behind) c.in_ok-number.ensures)

pub loop-index-preserved : goal.loop-index-preserved
loop-index-preserved c =
    goes_on (λ n. joins (index_at c.args.most)) (Some []) (spot_of c.args.spot) c.in_ok-number.number c.loop-index._index c.loop-index.all c.in_ok-more.more (spot_of c.loop-index.spot) (spot_of c.in_ok-more.next) c.loop-index.invariant c.loop-index-test.true c.in_ok-more.ensures

pub returns-in_err-more : goal.returns-in_err-more
returns-in_err-more c =
    let p = err_from_is_err_and c.from_residual-in_err-more.result c.from_residual-in_err-more.ensures.1 in
    rw (p.1, p.2) (goes_wrong (λ n. joins (index_at c.args.most)) (Some []) (spot_of c.args.spot) c.in_ok-number.number c.loop-index._index c.loop-index.all (spot_of c.loop-index.spot) _ c.loop-index.invariant c.loop-index-test.true c.in_err-more.ensures)

pub returns : goal.returns
returns c = goes_out (λ n. joins (index_at c.args.most)) (Some []) (spot_of c.args.spot) c.in_ok-number.number c.loop-index._index c.loop-index.all (spot_of c.loop-index.spot) c.loop-index.invariant c.loop-index-test.false
