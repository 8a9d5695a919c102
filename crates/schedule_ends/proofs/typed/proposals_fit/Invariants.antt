use Rattle.std.proofs.Common.{◌≡◌, drop}
use Rattle.std.specs.List.{list_all}
use Rattle.schedule_ends.specs.Fitting.{proposal_fits}
use Rattle.schedule_ends.proofs.typed.proposals_fit.Given as goal

abbrev pub invariant-loop-proposal : goal.invariant-loop-proposal
invariant-loop-proposal l = list_all proposal_fits (drop l.proposal-index l.proposals) ≡ list_all proposal_fits l.proposals
