use Rattle.std.proofs.Common.{◌≡◌, ◌++◌, drop, map}
use Rattle.association_words.specs.Seen.{seen_message}
use Rattle.association_end.specs.OneMessage.{all_written, AllMayStand}
use Rattle.association_end.proofs.sending.write_all.Given as goal

abbrev pub invariant-loop-message : goal.invariant-loop-message
invariant-loop-message l = record {
  octets : l.octets ++ all_written l.tables l.size (map seen_message (drop l.message-index l.messages)) ≡ all_written l.tables l.size (map seen_message l.messages);
  room : AllMayStand (map seen_message (drop l.message-index l.messages));
}
