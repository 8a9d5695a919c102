use Rattle.std.proofs.Common.{◌≡◌, map, take}
use Rattle.end_rules.specs.Policy.{answer_to_deletion}
use Rattle.association_calls.specs.association_state.Seen.{seen}
use Rattle.association_answers.proofs.choosing.answers_to_deletions.Given as goal

abbrev pub invariant-loop-id : goal.invariant-loop-id
invariant-loop-id l = l.answers ≡ map (answer_to_deletion (seen l.body)) (take l.id-index l.delete)
