use Rattle.std.proofs.Common.{◌≡◌, ◌++◌, drop}
use Rattle.set_rules.proofs.opening.proposals.Given as goal

abbrev pub invariant-loop-proposal : goal.invariant-loop-proposal
invariant-loop-proposal l = l.all ++ drop l.proposal-index l.config.contexts ≡ l.initial.all ++ l.config.contexts
