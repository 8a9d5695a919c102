use Rattle.std.proofs.Common.{◌≡◌, ◌++◌, drop}
use Rattle.association_ground.specs.end_rules.Sets.{listed}
use Rattle.association_sets.proofs.restored.restored_list.Given as goal

abbrev pub invariant-loop-item : goal.invariant-loop-item
invariant-loop-item l = l.list ++ listed (drop l.item-index l.set) ≡ listed l.set
