use Rattle.std.proofs.Common.{◌≡◌, drop}
use Rattle.association_ground.specs.end_rules.Sets.{same_lists}
use Rattle.association_sets.proofs.restored.same_lists.Given as goal

abbrev pub invariant-loop-place : goal.invariant-loop-place
invariant-loop-place l = same_lists (drop l.place l.xs) (drop l.place l.ys) ≡ same_lists l.xs l.ys
