use Rattle.context_restore.proofs.Links.{no_cut, none_left, drop_step}
use Rattle.context_restore.proofs.chain.drop_newest.Goals as goal

pub loop-place-init : goal.loop-place-init
loop-place-init c = λ keys l h. no_cut c.args.nodes.now c.args.head keys l

pub returns-in_default : goal.returns-in_default
returns-in_default c = λ keys l h. absurd (none_left c.args.nodes.now c.loop-place.nodes c.loop-place.at c.loop-place.place c.args.count keys (c.loop-place.invariant keys l h) c.in_default.is c.loop-place-test.true h)

pub loop-place-preserved : goal.loop-place-preserved
loop-place-preserved c = λ keys l h.
    drop_step c.args.nodes.now c.loop-place.nodes c.take_out-at.new.nodes c.loop-place.at c.take_out-at.result c.in-Some.key c.loop-place.place c.args.count keys
    (c.loop-place.invariant keys l h) c.in-Some.is c.take_out-at.ensures.parent c.take_out-at.ensures.updates c.take_out-at.ensures.len c.loop-place-test.true h
