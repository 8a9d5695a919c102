use Rattle.std.proofs.Common.{◌∙◌, sym, ap}
use Rattle.std.specs.Prelude.{is_some}
use Rattle.linked_ops.specs.Entries.{is_open}
use Rattle.linked_ops.proofs.Forests.{open_numbered}
use Rattle.linked_ops.proofs.forest.Forest.is_open.Goals as goal

pub returns : goal.returns
returns c =
    c.is_some.ensures ∙ ap is_some c.get.ensures ∙ sym (open_numbered c.self.inside.openings.entries c.self.inside.nodes c.self.inside.numbers c.self.inside.made c.self.invariant c.args.key)
    ∙ ap (is_open c.args.key) c.self.view_is
