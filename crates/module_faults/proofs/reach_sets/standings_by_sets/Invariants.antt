use Rattle.std.proofs.Common.{◌≡◌, ℕ, ◌<◌, length}
use Rattle.module_faults.specs.ReachSets.{IsSurveyedBySet}
use Rattle.module_faults.proofs.reach_sets.standings_by_sets.Given as goal

abbrev pub invariant-loop-place : goal.invariant-loop-place
invariant-loop-place l = record {
  count : length l.standings.items ≡ l.place;
  surveyed : (place : ℕ) → place < l.place → IsSurveyedBySet l.uses l.standings.items place;
}
