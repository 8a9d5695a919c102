use Rattle.std.proofs.Common.{◌≡◌, ◌≤◌, ◌-◌, drop, length}
use Rattle.context_restore.specs.Chain.{from_id}
use Rattle.context_restore.proofs.differing.first_from.Given as goal

abbrev pub invariant-loop-place : goal.invariant-loop-place
invariant-loop-place l = record { within : l.place ≤ length l.set; same : from_id l.id (drop l.place l.set) ≡ from_id l.id (drop l.fn.from l.set) }

abbrev pub decreases-loop-place : goal.decreases-loop-place
decreases-loop-place l = length l.set - l.place
