use Rattle.std.proofs.Common.{◌≡◌, drop}
use Rattle.association_ground.specs.end_rules.Sets.{is_among, proposed_ids}
use Rattle.association_sets.proofs.asking.is_proposed.Given as goal

abbrev pub invariant-loop-proposal : goal.invariant-loop-proposal
invariant-loop-proposal l = is_among l.id (proposed_ids (drop l.proposal-index l.add)) ≡ is_among l.id (proposed_ids l.add)
