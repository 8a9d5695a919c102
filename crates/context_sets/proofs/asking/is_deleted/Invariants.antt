use Rattle.std.proofs.Common.{◌≡◌, drop}
use Rattle.context_sets.specs.Alterations.{is_deleted}
use Rattle.context_sets.proofs.asking.is_deleted.Given as goal

abbrev pub invariant-loop-alteration : goal.invariant-loop-alteration
invariant-loop-alteration l = is_deleted (drop l.alteration-index l.alterations) l.id ≡ is_deleted l.alterations l.id
