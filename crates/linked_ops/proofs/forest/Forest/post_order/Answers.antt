use Rattle.std.proofs.Common.{◌∙◌, ap}
use Rattle.linked_ops.specs.Entries.{post_order_of}
use Rattle.linked_ops.proofs.Forests.{trees_are}
use Rattle.linked_ops.proofs.forest.Forest.post_order.Goals as goal

pub returns : goal.returns
returns c =
    c.from_vec.ensures
    ∙ trees_are c.self.inside.openings.entries c.self.inside.nodes c.self.inside.numbers c.self.inside.made c.self.invariant c.in_ok-told.told.items c.in_ok-told.ensures
    ∙ ap post_order_of c.self.view_is
