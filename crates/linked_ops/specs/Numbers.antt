-- The numbers of openings by their keys.
use Rattle.std.specs.Prelude.{ℕ, Option, if◌then◌else◌}
use Rattle.std.specs.Ordering.{int_cmp}
use Rattle.std.specs.Map.{lookup}
use Rattle.std.specs.BTreeMap.{is_at}
use Rattle.linked_ops.specs.declared.key.Key.{Key}
use Rattle.linked_ops.specs.declared.numbers.Numbers.{Numbers}

-- the number of a key
abbrev pub number_in : Key → Numbers → Option ℕ
number_in key numbers = lookup (is_at (int_cmp key.id)) (if key.own then numbers.own.entries else numbers.peer.entries)
