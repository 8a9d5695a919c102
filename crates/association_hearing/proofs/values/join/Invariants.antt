use Rattle.std.proofs.Common.{◌≡◌, ◌++◌}
use Rattle.association_hearing.proofs.values.join.Given as goal

abbrev pub invariant-loop-message : goal.invariant-loop-message
invariant-loop-message l = (l.all.answers ≡ l.fn.all.answers ++ l.yielded) × (l.all.shown ≡ l.fn.all.shown)

abbrev pub invariant-loop-indication : goal.invariant-loop-indication
invariant-loop-indication l = (l.all.answers ≡ l.fn.all.answers ++ l.fn.taken.answers) × (l.all.shown ≡ l.fn.all.shown ++ l.yielded)
