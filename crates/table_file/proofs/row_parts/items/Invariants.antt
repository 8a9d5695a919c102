use Rattle.std.proofs.Common.{Some, []}
use Rattle.table_file.specs.Reading.{spot_of}
use Rattle.table_file.specs.RowParts.{joins, item_at}
use Rattle.table_file.proofs.Folding.{Goes}
use Rattle.table_file.proofs.row_parts.items.Given as goal

abbrev pub invariant-loop-index : goal.invariant-loop-index
invariant-loop-index l = Goes (λ n. joins item_at) (Some []) (spot_of l.fn.spot) l.number l._index l.all (spot_of l.spot)
