use Rattle.slab.specs.Slab.{get}
use Rattle.linked_ops.proofs.Steps.{updated, unlinked_by}
use Rattle.linked_ops.proofs.links.unlink.Goals as goal

pub returns-in-Some : goal.returns-in-Some
returns-in-Some c =
    unlinked_by c.args.place c.args.parent c.in-Some.node (get c.args.nodes.now) (get c.try_remove.new.self) (get c.set_next.new.nodes) (get c.set_previous.new.nodes) (get c.drop_child.new.nodes)
    c.in-Some.ensures.value (updated c.args.nodes.now c.try_remove.new.self c.args.place _ c.in-Some.ensures.updates) c.set_next.ensures c.set_previous.ensures c.drop_child.ensures
