use Rattle.std.proofs.Common.{◌≡◌, ◌≤◌, drop, vec_len, vec_capacity}
use Rattle.context_sets.specs.Alterations.{without_deletions}
use Rattle.context_sets.proofs.settling.remove_deletions.Given as goal

abbrev pub invariant-loop-place : goal.invariant-loop-place
invariant-loop-place l = record { rest : without_deletions (drop l.place l.ids) (drop l.place l.results) l.items.items ≡ without_deletions l.ids l.results l.initial.items.items; len : vec_len l.items ≤ vec_len l.initial.items; capacity : vec_capacity l.items ≡ vec_capacity l.initial.items }
