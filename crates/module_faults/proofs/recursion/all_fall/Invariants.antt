use Rattle.std.proofs.Common.{◌≡◌, length}
use Rattle.module_faults.specs.Standings.{all_fall}
use Rattle.module_faults.proofs.recursion.all_fall.Given as goal

abbrev pub invariant-loop-rest : goal.invariant-loop-rest
invariant-loop-rest l = all_fall l.standings l.standing l.rest ≡ all_fall l.standings l.standing l.uses

abbrev pub decreases-loop-rest : goal.decreases-loop-rest
decreases-loop-rest l = length l.rest
