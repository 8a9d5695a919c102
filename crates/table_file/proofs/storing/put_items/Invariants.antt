use Rattle.std.proofs.Common.{◌≡◌, ◌++◌, take, length}
use Rattle.std.specs.List.{flat_map}
use Rattle.byteorder.specs.Endian.{big_bytes}
use Rattle.table_file.specs.Files.{item_file}
use Rattle.table_file.proofs.storing.put_items.Given as goal

abbrev pub invariant-loop-item : goal.invariant-loop-item
invariant-loop-item l = l.out ≡ l.fn.out ++ (big_bytes 4 (length l.items) ++ flat_map item_file (take l.item-index l.items))
