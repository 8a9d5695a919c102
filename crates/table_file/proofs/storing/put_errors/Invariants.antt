use Rattle.std.proofs.Common.{◌≡◌, ◌++◌, take, length}
use Rattle.std.specs.List.{flat_map}
use Rattle.byteorder.specs.Endian.{big_bytes}
use Rattle.table_file.specs.Files.{error_file}
use Rattle.table_file.proofs.storing.put_errors.Given as goal

abbrev pub invariant-loop-error : goal.invariant-loop-error
invariant-loop-error l = l.out ≡ l.fn.out ++ (big_bytes 4 (length l.errors) ++ flat_map error_file (take l.error-index l.errors))
