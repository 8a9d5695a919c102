use Rattle.tpkt.proofs.StreamLaws.{no_packet}
use Rattle.tpkt.proofs.laws.faulty_begins_no_packet.Goals as goal

pub returns : goal.returns
returns c = no_packet
