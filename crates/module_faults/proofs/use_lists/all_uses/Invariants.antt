use Rattle.std.proofs.Common.{◌≡◌, ◌++◌, map, length}
use Rattle.module_faults.specs.Recursion.{bodies_uses}
use Rattle.module_faults.proofs.use_lists.all_uses.Given as goal

abbrev pub invariant-loop-rest : goal.invariant-loop-rest
invariant-loop-rest l = map (λ l. l.items) l.lists.items ++ bodies_uses l.names l.rest ≡ bodies_uses l.names l.names

abbrev pub decreases-loop-rest : goal.decreases-loop-rest
decreases-loop-rest l = length l.rest
