use Rattle.std.proofs.Common.{◌≡◌, ◌++◌, ◌+◌, drop}
use Rattle.transcript_text.specs.Texts.{entries_text, nothing_yet}
use Rattle.transcript_text.proofs.transcript.put_entries.Given as goal

abbrev pub invariant-loop-entry : goal.invariant-loop-entry
invariant-loop-entry l = record {
  counted : l.number ≡ l.entry-index;
  going_on : l.fn.text ++ entries_text l.tables nothing_yet 1 l.entries ≡ l.text ++ entries_text l.tables l.so_far (l.number + 1) (drop l.entry-index l.entries);
}
