use Rattle.std.proofs.Common.{◌≡◌, ℕ, ◌<◌, true}
use Rattle.module_faults.specs.Standings.{is_shown}
use Rattle.module_faults.proofs.recursion.are_shown.Given as goal

abbrev pub invariant-loop-place : goal.invariant-loop-place
invariant-loop-place l = (place : ℕ) → place < l.place → is_shown l.uses l.standings place ≡ true
