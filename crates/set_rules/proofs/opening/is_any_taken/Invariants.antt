use Rattle.std.proofs.Common.{◌≡◌, drop}
use Rattle.std.specs.List.{list_any}
use Rattle.association_sets.specs.end_rules.Sets.{proposed_ids}
use Rattle.set_rules.specs.Plain.{is_taken_id}
use Rattle.set_rules.proofs.opening.is_any_taken.Given as goal

abbrev pub invariant-loop-proposal : goal.invariant-loop-proposal
invariant-loop-proposal l = list_any (is_taken_id l.initiates l.held) (proposed_ids (drop l.proposal-index l.add)) ≡ list_any (is_taken_id l.initiates l.held) (proposed_ids l.add)
