use Rattle.association_end.specs.Progress.{ReadsOn, messages_left}
use Rattle.association_end.proofs.end.End.read_all.Given as goal

abbrev pub invariant-reading : goal.invariant-reading
invariant-reading l = ReadsOn l.fn.self l.self l.fn.shown l.shown

abbrev pub decreases-reading : goal.decreases-reading
decreases-reading l = messages_left l.self
