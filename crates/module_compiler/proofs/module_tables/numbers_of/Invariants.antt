use Rattle.std.proofs.Common.{◌≡◌, [], drop}
use Rattle.module_compiler.specs.ModuleTables.{numbers_of, sort_test}
use Rattle.module_compiler.proofs.module_tables.numbers_of.Given as goal

abbrev pub invariant-loop-name : goal.invariant-loop-name
invariant-loop-name l = numbers_of (sort_test l.sort) l.scope.assignments l.of (drop l.name-index l.names) ≡ numbers_of (sort_test l.sort) l.scope.assignments [] l.names
