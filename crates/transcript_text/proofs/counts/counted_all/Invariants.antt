use Rattle.std.proofs.Common.{◌≡◌, drop}
use Rattle.transcript_text.specs.Counts.{counted_all, none_counted}
use Rattle.transcript_text.proofs.counts.counted_all.Given as goal

abbrev pub invariant-loop-entry : goal.invariant-loop-entry
invariant-loop-entry l = counted_all none_counted l.entries ≡ counted_all l.counts (drop l.entry-index l.entries)
