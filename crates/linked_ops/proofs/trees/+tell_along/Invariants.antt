use Rattle.std.proofs.Common.{◌≡◌, ◌++◌, ◌≤◌}
use Rattle.slab.specs.Slab.{get}
use Rattle.linked_ops.specs.KeysAlong.{trees_along}
use Rattle.linked_ops.proofs.trees.+tell_along.Given as goal

abbrev pub decreases-tell_along : goal.decreases-tell_along
decreases-tell_along l = l.left

abbrev pub invariant-loop-left : goal.invariant-loop-left
invariant-loop-left l =
    (l.left ≤ l.fn.left)
    × (l.told.items ++ trees_along (get l.nodes) l.left l.at ≡ l.fn.told.items ++ trees_along (get l.nodes) l.fn.left l.fn.at)

abbrev pub decreases-loop-left : goal.decreases-loop-left
decreases-loop-left l = l.left
