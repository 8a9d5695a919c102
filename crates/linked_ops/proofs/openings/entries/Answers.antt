use Rattle.std.proofs.Common.{◌∙◌}
use Rattle.linked_ops.proofs.Listed.{values_listed}
use Rattle.linked_ops.proofs.openings.entries.Goals as goal

pub loop-opening-init : goal.loop-opening-init
loop-opening-init c =
    values_listed c.args.openings.now.entries c.args.openings.now.entries _ _ c.new-list.ensures.items (c.into_iter-opening-iterator.ensures.into_iter_gives ∙ c.values-opening-items.ensures.rest)
