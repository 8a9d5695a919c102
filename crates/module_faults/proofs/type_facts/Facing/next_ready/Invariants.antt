use Rattle.std.proofs.Common.{◌≡◌, ℕ, ◌<◌, None}
use Rattle.module_faults.specs.Known.{ready}
use Rattle.module_faults.proofs.type_facts.Facing.next_ready.Given as goal

abbrev pub invariant-loop-place : goal.invariant-loop-place
invariant-loop-place l = (place : ℕ) → place < l.place → ready l.self.names.now l.self.standings.now l.self.known.now place ≡ None
