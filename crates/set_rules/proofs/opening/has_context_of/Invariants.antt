use Rattle.std.proofs.Common.{◌≡◌, [], drop}
use Rattle.std.specs.Prelude.{is_some}
use Rattle.association_sets.specs.end_rules.Sets.{lowest_with}
use Rattle.set_rules.proofs.opening.has_context_of.Given as goal

abbrev pub invariant-loop-item : goal.invariant-loop-item
invariant-loop-item l = is_some (lowest_with l.name [] (drop l.item-index l.set)) ≡ is_some (lowest_with l.name [] l.set)
