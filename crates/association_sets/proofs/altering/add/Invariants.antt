use Rattle.std.proofs.Common.{◌≡◌, drop}
use Rattle.association_ground.specs.end_rules.Sets.{with_added}
use Rattle.association_sets.proofs.altering.add.Given as goal

abbrev pub invariant-loop-place : goal.invariant-loop-place
invariant-loop-place l = with_added (drop l.place l.proposals) (drop l.place l.answers) l.set.items ≡ with_added l.proposals l.answers l.initial.set.items
