use Rattle.std.proofs.Common.{◌≡◌, length}
use Rattle.module_compiler.specs.Kept.{AreFollowed, AreBehind}
use Rattle.module_compiler.proofs.scope.follow_all.Given as goal

abbrev pub invariant-loop-place : goal.invariant-loop-place
invariant-loop-place l = record { followed : AreFollowed l.assignments l.followed.items; behind : AreBehind l.assignments l.behind.items; count : length l.behind.items ≡ l.place }
