use Rattle.std.proofs.Common.{◌≡◌, ◌+◌, ◌*◌, length}
use Rattle.operation_notation.specs.TreeView.{parts_of as trees}
use Rattle.module_faults.specs.Least.{least_from}
use Rattle.module_faults.specs.Locals.{in_parts, type_faults}
use Rattle.module_faults.proofs.locals.+local.Given as goal

abbrev pub decreases-of_type : goal.decreases-of_type
decreases-of_type l = 4 * l.levels

abbrev pub decreases-part_types : goal.decreases-part_types
decreases-part_types l = 4 * l.levels + 1

abbrev pub decreases-parts : goal.decreases-parts
decreases-parts l = 4 * l.levels + 2

abbrev pub decreases-of_plain : goal.decreases-of_plain
decreases-of_plain l = 4 * l.levels + 3

abbrev pub invariant-part_types-loop-rest : goal.invariant-part_types-loop-rest
invariant-part_types-loop-rest l = least_from l.least.found (in_parts (type_faults l.names l.levels) (trees l.rest)) ≡ least_from l.fn.least.found (in_parts (type_faults l.names l.levels) (trees l.parts))

abbrev pub decreases-part_types-loop-rest : goal.decreases-part_types-loop-rest
decreases-part_types-loop-rest l = length l.rest
