use Rattle.std.proofs.Common.{◌≡◌, ◌++◌, take, length}
use Rattle.std.specs.List.{flat_map}
use Rattle.byteorder.specs.Endian.{big_bytes}
use Rattle.table_file.specs.Files.{part_file}
use Rattle.table_file.specs.declared.row_parts.Version.TheVariants as versions
use Rattle.table_file.proofs.storing.put_parts.Given as goal

abbrev pub invariant-loop-part : goal.invariant-loop-part
invariant-loop-part l = l.out ≡ l.fn.out ++ (big_bytes 4 (length l.parts) ++ flat_map (part_file versions.Two) (take l.part-index l.parts))
