use Rattle.std.proofs.Common.{◌≡◌, ◌++◌, drop}
use Rattle.association_ground.specs.end_rules.Sets.{named_ids}
use Rattle.association_sets.proofs.altering.named_ids.Given as goal

abbrev pub invariant-loop-id : goal.invariant-loop-id
invariant-loop-id l = l.ids ++ drop l.id-index l.id-items ≡ named_ids l.alteration
