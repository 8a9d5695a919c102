use Rattle.std.proofs.Common.{◌≡◌, drop}
use Rattle.end_rules.specs.Altering.{deletions_refusal}
use Rattle.association_state.specs.Seen.{seen}
use Rattle.association_calls.proofs.altering.deletions_refusal.Given as goal

abbrev pub invariant-loop-id : goal.invariant-loop-id
invariant-loop-id l = deletions_refusal (seen l.body) (drop l.id-index l.delete) ≡ deletions_refusal (seen l.body) l.delete
