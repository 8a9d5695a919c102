use Rattle.std.proofs.Common.{◌≡◌, ◌+◌, ◌≤◌, drop}
use Rattle.context_sets.specs.Results.{acceptances}
use Rattle.context_sets.proofs.settling.acceptances.Given as goal

abbrev pub invariant-loop-answer : goal.invariant-loop-answer
invariant-loop-answer l = record { rest : l.count + acceptances (drop l.answer-index l.answers) ≡ acceptances l.answers; within : l.count ≤ l.answer-index }
