-- What an end sends by transfers, as the rules of one end see it.
use Rattle.std.specs.Prelude.{map, option_map}
use Rattle.stub_tables.specs.declared.apdu.Apdu.{Apdu}
use Rattle.association_sets.specs.end_rules.State as rules
use Rattle.association_pieces.specs.declared.sending.Progress.{Progress}
use Rattle.association_pieces.specs.declared.sending.Progress.TheVariants.{Running, Ending, Suspended}
use Rattle.association_pieces.specs.declared.sending.Queued.{Queued}
use Rattle.association_pieces.specs.declared.sending.Encoded.{Encoded}
use Rattle.association_pieces.specs.declared.sending.Transfer.{Transfer}
use Rattle.association_pieces.specs.declared.sending.Sending.{Sending}

abbrev pub seen_progress : Progress → rules.Progress
seen_progress Running = rules.Running
seen_progress Ending = rules.Ending
seen_progress Suspended = rules.Suspended

abbrev pub seen_queued : Queued → rules.Queued
seen_queued q = record { context = q.context; apdu = q.apdu }

-- the APDU of an encoding is that of its transfer's item
abbrev pub seen_encoded : Apdu → Encoded → rules.Encoded
seen_encoded apdu e =
    record {
      item = record { id = e.id; pair = e.pair; apdu = apdu };
      octets = e.octets;
      checkpoint = e.checkpoint;
      window = e.window;
    }

abbrev pub seen_transfer : Transfer → rules.Transfer
seen_transfer t =
    record {
      item = seen_queued t.item;
      encoded = option_map (seen_encoded t.item.apdu) t.encoded;
      pieces = t.pieces;
      confirmed = t.confirmed;
      progress = seen_progress t.progress;
    }

abbrev pub seen_sending : Sending → rules.Sending
seen_sending s = record { started = s.started; current = option_map seen_transfer s.current; queue = map seen_queued s.queue.items }
