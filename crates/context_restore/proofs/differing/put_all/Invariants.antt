use Rattle.std.proofs.Common.{◌≡◌, drop}
use Rattle.context_restore.specs.Versions.{with_all}
use Rattle.context_restore.proofs.differing.put_all.Given as goal

abbrev pub invariant-loop-item : goal.invariant-loop-item
invariant-loop-item l = with_all (drop l.item-index l.items) l.set.items ≡ with_all l.items l.initial.set.items
