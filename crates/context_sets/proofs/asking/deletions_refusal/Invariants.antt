use Rattle.std.proofs.Common.{◌≡◌, drop}
use Rattle.context_sets.specs.Asking.{first_refusal, deletion_refusal}
use Rattle.context_sets.proofs.asking.deletions_refusal.Given as goal

abbrev pub invariant-loop-id : goal.invariant-loop-id
invariant-loop-id l = first_refusal (deletion_refusal l.ground.items.now l.ground.own.now l.ground.used.now) (drop l.id-index l.deleted) ≡ first_refusal (deletion_refusal l.ground.items.now l.ground.own.now l.ground.used.now) l.deleted
