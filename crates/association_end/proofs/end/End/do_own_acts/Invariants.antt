use Rattle.association_end.proofs.Own.{OwnOn, to_do}
use Rattle.association_end.proofs.end.End.do_own_acts.Given as goal

abbrev pub invariant-doing : goal.invariant-doing
invariant-doing l = OwnOn l.fn.self l.self

abbrev pub decreases-doing : goal.decreases-doing
decreases-doing l = to_do l.self
