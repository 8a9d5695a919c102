use Rattle.std.proofs.Common.{◌++◌, drop}
use Rattle.context_sets.specs.Alterations.{identifiers, named_by}
use Rattle.context_sets.specs.Met.{GoesOn}
use Rattle.context_sets.proofs.asking.are_bad.Given as goal

abbrev pub invariant-loop-proposal : goal.invariant-loop-proposal
invariant-loop-proposal l = GoesOn l.met (identifiers (drop l.proposal-index l.proposal-items) ++ l.asked.deleted) (named_by l.asked)

abbrev pub invariant-loop-id : goal.invariant-loop-id
invariant-loop-id l = GoesOn l.met (drop l.id-index l.id-items) (named_by l.asked)
