use Rattle.context_restore.proofs.Links.{back_step, back_end}
use Rattle.context_restore.proofs.chain.set_back.Goals as goal

pub returns-in_default : goal.returns-in_default
returns-in_default c = back_end c.args.nodes.now _ c.loop-step.at c.loop-step.set.items _ c.in_default.is c.loop-step.invariant

pub loop-step-preserved : goal.loop-step-preserved
loop-step-preserved c =
    back_step c.args.nodes.now c.args.count c.loop-step.step c.in-Some.key c.loop-step.at c.in_ok-at.at c.loop-step.set.items c.undo_at.new.set.items _ c.loop-step-test.true c.in-Some.is c.in_ok-at.ensures.parent c.in_ok-at.ensures.set c.loop-step.invariant
