use Rattle.std.proofs.Common.{◌≡◌, ◌+◌, ◌≤◌, ◌++◌, drop}
use Rattle.context_sets.specs.Policy.{added_answers}
use Rattle.context_sets.proofs.alteration_answers.added_answers.Given as goal

abbrev pub invariant-loop-proposal : goal.invariant-loop-proposal
invariant-loop-proposal l = record { rest : l.answers ++ added_answers l.rules l.count (drop l.proposal-index l.proposals) ≡ added_answers l.rules l.taken l.proposals; within : l.count ≤ 64 }
