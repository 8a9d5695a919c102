use Rattle.std.proofs.Common.{◌∙◌, sym, arith}
use Rattle.slab.specs.Slab.{get}
use Rattle.linked_ops.proofs.TreeKeys.{tells_more}
use Rattle.linked_ops.proofs.trees.+tell_along.Goals as goal

pub loop-left-preserved : goal.loop-left-preserved
loop-left-preserved t c = (
  omega arith,
  tells_more (get c.args.nodes.now) c.loop-left.left c.loop-left.at c.in-Some.node c.loop-left.told.items c.tell_along.new.told.items c.push.new.self.items _ (omega arith) (sym c.reached.ensures ∙ c.in-Some.is) c.in_ok-tell_along.ensures c.in_ok-push.ensures.items c.loop-left.invariant.1,
)
