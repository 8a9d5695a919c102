use Rattle.std.proofs.Common.{◌≡◌, ◌≤◌, ◌++◌, drop, length}
use Rattle.context_restore.specs.Versions.{missing}
use Rattle.context_restore.proofs.differing.missing.Given as goal

abbrev pub invariant-loop-item : goal.invariant-loop-item
invariant-loop-item l = record { within : l.place ≤ length l.other; same : l.list ++ missing (drop l.place l.other) (drop l.item-index l.set) ≡ missing l.other l.set }
