use Rattle.std.proofs.Common.{◌≡◌, ◌+◌, ◌*◌, [], length}
use Rattle.operation_notation.specs.TreeView.{parts_of as trees}
use Rattle.module_compiler.specs.Numbering.{parts_of, walk}
use Rattle.module_compiler.proofs.numbering.Numbering.+walking.Given as goal

abbrev pub decreases-walk : goal.decreases-walk
decreases-walk l = 10 * l.turns

abbrev pub decreases-parts : goal.decreases-parts
decreases-parts l = 10 * l.turns + 1

abbrev pub decreases-row_of : goal.decreases-row_of
decreases-row_of l = 10 * l.turns + 1

abbrev pub decreases-named_row : goal.decreases-named_row
decreases-named_row l = 10 * l.turns + 2

abbrev pub decreases-plain_row : goal.decreases-plain_row
decreases-plain_row l = 10 * l.turns + 3

abbrev pub invariant-parts-loop-rest : goal.invariant-parts-loop-rest
invariant-parts-loop-rest l = parts_of (walk l.scope l.turns) l.parts (trees l.rest) l.self ≡ parts_of (walk l.scope l.turns) [] (trees l.fn.texts) l.fn.self

abbrev pub decreases-parts-loop-rest : goal.decreases-parts-loop-rest
decreases-parts-loop-rest l = length l.rest
