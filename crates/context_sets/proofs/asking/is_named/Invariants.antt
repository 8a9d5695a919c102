use Rattle.std.proofs.Common.{◌≡◌, drop}
use Rattle.context_sets.specs.Alterations.{is_named}
use Rattle.context_sets.proofs.asking.is_named.Given as goal

abbrev pub invariant-loop-alteration : goal.invariant-loop-alteration
invariant-loop-alteration l = is_named (drop l.alteration-index l.alterations) l.id ≡ is_named l.alterations l.id
