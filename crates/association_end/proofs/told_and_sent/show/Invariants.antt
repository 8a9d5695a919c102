use Rattle.std.proofs.Common.{◌≡◌, ◌++◌}
use Rattle.association_end.proofs.told_and_sent.show.Given as goal

abbrev pub invariant-loop-indication : goal.invariant-loop-indication
invariant-loop-indication l = l.shown ≡ l.fn.shown ++ l.yielded
