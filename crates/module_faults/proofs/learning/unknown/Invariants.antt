use Rattle.std.proofs.Common.{◌≡◌, replicate, None}
use Rattle.module_faults.proofs.learning.unknown.Given as goal

abbrev pub invariant-loop : goal.invariant-loop
invariant-loop l = l.known.items ≡ replicate l.counter None
