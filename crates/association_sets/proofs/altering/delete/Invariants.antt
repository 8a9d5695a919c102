use Rattle.std.proofs.Common.{◌≡◌, drop}
use Rattle.association_ground.specs.end_rules.Sets.{with_deleted}
use Rattle.association_sets.proofs.altering.delete.Given as goal

abbrev pub invariant-loop-place : goal.invariant-loop-place
invariant-loop-place l = with_deleted (drop l.place l.ids) (drop l.place l.answers) l.set.items ≡ with_deleted l.ids l.answers l.initial.set.items
