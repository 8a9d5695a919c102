use Rattle.std.proofs.Common.{◌≡◌, ◌++◌, take, length}
use Rattle.std.specs.List.{flat_map}
use Rattle.byteorder.specs.Endian.{big_bytes}
use Rattle.table_file.specs.Files.{operation_file}
use Rattle.table_file.proofs.storing.put_operations.Given as goal

abbrev pub invariant-loop-operation : goal.invariant-loop-operation
invariant-loop-operation l = l.out ≡ l.fn.out ++ (big_bytes 4 (length l.operations) ++ flat_map operation_file (take l.operation-index l.operations))
