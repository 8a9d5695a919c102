use Rattle.end_config.proofs.Contexts.{Passed}
use Rattle.end_config.proofs.checking.bad_context.Given as goal

abbrev pub invariant-loop-i : goal.invariant-loop-i
invariant-loop-i l = Passed l.mode l.contexts l.i
