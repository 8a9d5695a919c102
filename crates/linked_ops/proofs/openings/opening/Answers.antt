use Rattle.std.proofs.Common.{◌∙◌}
use Rattle.linked_ops.proofs.Listed.{looked_up}
use Rattle.linked_ops.proofs.openings.opening.Goals as goal

pub returns : goal.returns
returns c = c.copied.ensures ∙ c.get.ensures.value ∙ looked_up c.args.number c.args.openings.now.entries
