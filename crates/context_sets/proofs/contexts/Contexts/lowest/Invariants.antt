use Rattle.std.proofs.Common.{◌≡◌, drop}
use Rattle.context_sets.specs.HeldSets.{lowest}
use Rattle.context_sets.proofs.contexts.Contexts.lowest.Given as goal

abbrev pub invariant-loop-item : goal.invariant-loop-item
invariant-loop-item l = lowest (drop l.item-index l.item-items) l.self.own l.name ≡ lowest l.item-items l.self.own l.name
