use Rattle.std.proofs.Common.{◌≡◌, drop}
use Rattle.context_restore.specs.Versions.{ids, without}
use Rattle.context_restore.proofs.differing.remove_all.Given as goal

abbrev pub invariant-loop-item : goal.invariant-loop-item
invariant-loop-item l = without (ids (drop l.item-index l.items)) l.set.items ≡ without (ids l.items) l.initial.set.items
