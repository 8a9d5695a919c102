use Rattle.std.proofs.Common.{◌≡◌, ◌++◌, length}
use Rattle.std.specs.Map.{values_of}
use Rattle.slab.specs.Slab.{get}
use Rattle.linked_ops.specs.KeysAlong.{roots_keys}
use Rattle.linked_ops.proofs.trees.all_keys.Given as goal

abbrev pub invariant-loop-opening : goal.invariant-loop-opening
invariant-loop-opening l =
    l.told.items ++ roots_keys (get l.nodes) l.openings.entries (length l.openings.entries) l.opening-iterator
    ≡ roots_keys (get l.nodes) l.openings.entries (length l.openings.entries) (values_of l.openings.entries)
