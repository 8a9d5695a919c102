use Rattle.std.proofs.Common.{◌≡◌, drop}
use Rattle.transcript_text.specs.Counts.{with_shown}
use Rattle.transcript_text.proofs.counts.with_shown.Given as goal

abbrev pub invariant-loop-indication : goal.invariant-loop-indication
invariant-loop-indication l = with_shown l.fn.counts l.shown ≡ with_shown l.counts (drop l.indication-index l.shown)
