use Rattle.std.proofs.Common.{◌≡◌, drop}
use Rattle.association_ground.specs.end_rules.Sets.{lowest_with}
use Rattle.association_sets.proofs.sets.lowest_with.Given as goal

abbrev pub invariant-loop-item : goal.invariant-loop-item
invariant-loop-item l = lowest_with l.name l.own (drop l.item-index l.held) ≡ lowest_with l.name l.own l.held
