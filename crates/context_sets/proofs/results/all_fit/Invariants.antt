use Rattle.std.proofs.Common.{◌≡◌, drop}
use Rattle.context_sets.specs.Results.{all_fit}
use Rattle.context_sets.proofs.results.all_fit.Given as goal

abbrev pub invariant-loop-place : goal.invariant-loop-place
invariant-loop-place l = all_fit (drop l.place l.proposals) (drop l.place l.answers) ≡ all_fit l.proposals l.answers
