use Rattle.std.proofs.Common.{◌≡◌, ℕ, ◌+◌, ◌<◌, List, length, sym, ap, subst, ◌∙◌, arith}
use Rattle.std.proofs.lemmas.Grind.{common_steps}
use Rattle.module_faults.specs.declared.reach_search.Standing.{Standing}
use Rattle.module_faults.specs.ReachSets.{is_in, IsSurveyedBySet}
use Rattle.module_faults.proofs.Reached.{one_surveyed, survey_of_sets}
use Rattle.module_faults.proofs.reach_sets.standings_by_sets.Goals as goal

pub loop-place-preserved : goal.loop-place-preserved
loop-place-preserved c = record {
  count = grind (arith, common_steps);
  surveyed = subst (λ (z : List Standing). (place : ℕ) → place < c.loop-place.place + 1 → IsSurveyedBySet c.args.uses.now z place) (sym c.in_ok-push.ensures.items)
      (one_surveyed c.args.uses.now c.loop-place.standings.items c.recursion_only.result c.in_ok-reached.reached.items c.loop-place.place (sym c.loop-place.invariant.count) c.in_ok-reached.ensures
      (c.recursion_only.ensures ∙ c.is_in.ensures ∙ ap (λ z. is_in z c.loop-place.place) c.deref.ensures.value) c.loop-place.invariant.surveyed);
}

pub returns : goal.returns
returns c =
    let all : c.loop-place.place ≡ length c.args.uses.now = omega arith in
    survey_of_sets c.args.uses.now c.loop-place.standings.items (c.loop-place.invariant.count ∙ all)
    (subst (λ (z : ℕ). (place : ℕ) → place < z → IsSurveyedBySet c.args.uses.now c.loop-place.standings.items place) all c.loop-place.invariant.surveyed)
