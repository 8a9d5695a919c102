use Rattle.std.proofs.Common.{◌≡◌, ◌++◌, drop}
use Rattle.association_ground.specs.end_rules.Sets.{proposed_ids}
use Rattle.association_sets.proofs.altering.push_ids.Given as goal

abbrev pub invariant-loop-proposal : goal.invariant-loop-proposal
invariant-loop-proposal l = l.ids ++ proposed_ids (drop l.proposal-index l.add) ≡ l.fn.ids ++ proposed_ids l.add
