use Rattle.std.proofs.Common.{◌≡◌, drop}
use Rattle.association_ground.specs.end_rules.Sets.{fit_proposals}
use Rattle.association_sets.proofs.fitting.fit_proposals.Given as goal

abbrev pub invariant-loop-place : goal.invariant-loop-place
invariant-loop-place l = fit_proposals (drop l.place l.proposals) (drop l.place l.answers) ≡ fit_proposals l.proposals l.answers
