use Rattle.std.proofs.Common.{sym, subst, ◌∙◌}
use Rattle.context_sets.specs.Sets.{IsRising}
use Rattle.context_sets.proofs.Rising.{rising-with_additions}
use Rattle.context_sets.proofs.results.accepted_list.Goals as goal

pub returns-clause-rises : goal.returns-clause-rises
returns-clause-rises c =
    subst IsRising (sym (c.from_vec.ensures ∙ c.put_additions.ensures.items))
    (rising-with_additions c.in_ok-copies.copies c.as_slice-4.result.now c.in_ok-items.items.items (subst IsRising (sym c.in_ok-items.ensures.items) tt))
