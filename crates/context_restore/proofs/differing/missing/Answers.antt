use Rattle.std.proofs.Common.{drop}
use Rattle.context_restore.proofs.Merging.{merged}
use Rattle.context_restore.proofs.differing.missing.Goals as goal

pub loop-item-preserved : goal.loop-item-preserved
loop-item-preserved c = record {
  within = c.first_from-place.ensures.within;
  same =
      merged c.args.other.now c.args.set.now (drop c.first_from-place.result c.args.other.now) c.loop-item.list c.push_missing.new.list _ c.loop-item.place c.loop-item.item-index c.item-item.result c.has_at.result
      c.requires.other c.requires.rises c.loop-item-test.true c.item-item.is c.first_from-place.ensures.skips c.has_at.ensures c.in_ok-push_missing.ensures c.loop-item.invariant.same;
}
