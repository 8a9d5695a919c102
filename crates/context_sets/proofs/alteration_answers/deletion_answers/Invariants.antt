use Rattle.std.proofs.Common.{◌≡◌, ◌+◌, ◌++◌, drop, map}
use Rattle.context_sets.specs.Policy.{deletion_answer}
use Rattle.context_sets.proofs.alteration_answers.deletion_answers.Given as goal

abbrev pub invariant-loop-id : goal.invariant-loop-id
invariant-loop-id l = l.answers ++ map (deletion_answer l.items l.used) (drop l.id-index l.ids) ≡ map (deletion_answer l.items l.used) l.ids
