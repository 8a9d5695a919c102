use Rattle.module_compiler.specs.Kept.{AreFollowed, Leads, From}
use Rattle.module_compiler.proofs.scope.chase.Given as goal

abbrev pub invariant-loop : goal.invariant-loop
invariant-loop l = record {
  leads : Leads l.assignments l.chain.items l.at;
  from : From l.place l.chain.items l.at;
  followed : AreFollowed l.assignments l.followed;
}
