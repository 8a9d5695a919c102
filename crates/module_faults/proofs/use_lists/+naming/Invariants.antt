use Rattle.std.proofs.Common.{◌≡◌, ◌+◌, ◌*◌, ◌++◌, length}
use Rattle.operation_notation.specs.TreeView.{parts_of as trees}
use Rattle.module_faults.specs.Recursion.{parts_uses, type_uses}
use Rattle.module_faults.proofs.use_lists.+naming.Given as goal

abbrev pub decreases-of_type : goal.decreases-of_type
decreases-of_type l = 3 * l.levels

abbrev pub decreases-of_parts : goal.decreases-of_parts
decreases-of_parts l = 3 * l.levels + 1

abbrev pub decreases-of_plain : goal.decreases-of_plain
decreases-of_plain l = 3 * l.levels + 2

abbrev pub invariant-of_parts-loop-rest : goal.invariant-of_parts-loop-rest
invariant-of_parts-loop-rest l = l.used.items ++ parts_uses (type_uses l.names l.levels) (trees l.rest) ≡ l.fn.used.items ++ parts_uses (type_uses l.names l.levels) (trees l.parts)

abbrev pub decreases-of_parts-loop-rest : goal.decreases-of_parts-loop-rest
decreases-of_parts-loop-rest l = length l.rest
