use Rattle.std.proofs.Common.{◌≡◌, drop}
use Rattle.std.specs.List.{list_any}
use Rattle.osi_base.specs.Proposals.{has_bad_transfers}
use Rattle.osi_base.proofs.proposals.is_badly_offered.Given as goal

abbrev pub invariant-loop-proposal : goal.invariant-loop-proposal
invariant-loop-proposal l = list_any has_bad_transfers (drop l.proposal-index l.proposals) ≡ list_any has_bad_transfers l.proposals
