use Rattle.association_answers.specs.association_state.Seen.{base_in, seen}
use Rattle.association_hearing.proofs.Taking.{took_next}
use Rattle.association_hearing.proofs.values.take_values.Goals as goal

pub loop-value-preserved : goal.loop-value-preserved
loop-value-preserved c =
    took_next (base_in c.args.basis.now) (seen c.args.body.now) (seen c.loop-value.body) (seen c.take_value.new.body) c.loop-value.yielded c.in-Some.value c.loop-value.all c.in_ok-taken.taken c.join.new.all
    c.loop-value.invariant c.in_ok-taken.ensures c.in_ok-join.ensures
