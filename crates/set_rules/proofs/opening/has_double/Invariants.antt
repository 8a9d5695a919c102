use Rattle.std.proofs.Common.{◌≡◌, drop}
use Rattle.association_sets.specs.end_rules.Sets.{proposed_ids}
use Rattle.association_sets.specs.end_rules.Altering.{has_double}
use Rattle.set_rules.proofs.opening.has_double.Given as goal

abbrev pub invariant-loop-place : goal.invariant-loop-place
invariant-loop-place l = has_double (proposed_ids (drop l.place l.add)) ≡ has_double (proposed_ids l.add)
