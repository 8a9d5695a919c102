use Rattle.std.proofs.Common.{◌≡◌, ◌++◌, take}
use Rattle.std.specs.Prelude.{flat_map}
use Rattle.table_listing.specs.Listing.{operation_line}
use Rattle.table_listing.proofs.lines.put_operations.Given as goal

abbrev pub invariant-loop-operation : goal.invariant-loop-operation
invariant-loop-operation l = l.text ≡ l.fn.text ++ flat_map operation_line (take l.operation-index l.operations)
