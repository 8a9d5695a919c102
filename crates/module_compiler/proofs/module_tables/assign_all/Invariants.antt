use Rattle.std.proofs.Common.{◌≡◌, length}
use Rattle.module_compiler.specs.ModuleTables.{walk_all}
use Rattle.module_compiler.proofs.module_tables.assign_all.Given as goal

abbrev pub invariant-loop-rest : goal.invariant-loop-rest
invariant-loop-rest l = walk_all l.scope l.place l.made l.rest l.numbering ≡ walk_all l.scope 0 l.fn.made l.scope.assignments l.fn.numbering

abbrev pub decreases-loop-rest : goal.decreases-loop-rest
decreases-loop-rest l = length l.rest
