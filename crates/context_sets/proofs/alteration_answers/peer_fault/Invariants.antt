use Rattle.std.proofs.Common.{drop}
use Rattle.context_sets.specs.Met.{MayGoOn}
use Rattle.context_sets.proofs.alteration_answers.peer_fault.Given as goal

abbrev pub invariant-loop-proposal : goal.invariant-loop-proposal
invariant-loop-proposal l = MayGoOn l.met l.peer l.items (drop l.proposal-index l.proposals) l.proposals
