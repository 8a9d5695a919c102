use Rattle.std.proofs.Common.{[]}
use Rattle.table_file.specs.Reading.{spot_of}
use Rattle.table_file.specs.Rows.{adds}
use Rattle.table_file.proofs.Folding.{Goes}
use Rattle.table_file.proofs.rows.rows.Given as goal

abbrev pub invariant-loop-index : goal.invariant-loop-index
invariant-loop-index l = Goes (λ n. adds l.version) [] (spot_of l.fn.spot) l.number l._index l.types (spot_of l.spot)
