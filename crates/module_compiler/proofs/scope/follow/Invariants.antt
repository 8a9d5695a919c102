use Rattle.std.proofs.Common.{length}
use Rattle.module_compiler.specs.Kept.{AreFollowed, IsBehind, Leads, From}
use Rattle.module_compiler.proofs.scope.follow.Given as goal

abbrev pub invariant-loop-before : goal.invariant-loop-before
invariant-loop-before l = record {
  leads : Leads l.assignments l.chain.items l.at;
  from : From l.place l.chain.items l.at;
  behind : IsBehind l.assignments l.at l.found;
  followed : AreFollowed l.assignments l.followed;
}

abbrev pub decreases-loop-before : goal.decreases-loop-before
decreases-loop-before l = length l.chain.items
