use Rattle.std.proofs.Common.{◌≡◌, drop}
use Rattle.std.specs.List.{list_any}
use Rattle.association_ground.specs.end_rules.Altering.{is_no_context}
use Rattle.association_sets.proofs.asking.has_no_context.Given as goal

abbrev pub invariant-loop-id : goal.invariant-loop-id
invariant-loop-id l = list_any is_no_context (drop l.id-index l.ids) ≡ list_any is_no_context l.ids
