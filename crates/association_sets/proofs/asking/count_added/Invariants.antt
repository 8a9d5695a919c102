use Rattle.std.proofs.Common.{◌≡◌, ◌+◌, ◌≤◌, min, drop}
use Rattle.association_ground.specs.end_rules.Sets.{count_added}
use Rattle.association_sets.proofs.asking.count_added.Given as goal

abbrev pub invariant-loop-alteration : goal.invariant-loop-alteration
invariant-loop-alteration l = record { rest : min 65 (l.count + count_added (drop l.alteration-index l.own)) ≡ min 65 (count_added l.own); few : l.count ≤ 65 }
