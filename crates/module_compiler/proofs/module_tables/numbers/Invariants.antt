use Rattle.std.proofs.Common.{◌≡◌, ◌++◌, length}
use Rattle.module_compiler.specs.Scope.{own_numbers}
use Rattle.module_compiler.proofs.module_tables.numbers.Given as goal

abbrev pub invariant-loop-rest : goal.invariant-loop-rest
invariant-loop-rest l = l.of.items ++ own_numbers l.operations l.errors l.rest ≡ own_numbers 0 0 l.fn.assignments

abbrev pub decreases-loop-rest : goal.decreases-loop-rest
decreases-loop-rest l = length l.rest
