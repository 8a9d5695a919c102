use Rattle.tpkt.proofs.StreamLaws.{less_than_a_packet}
use Rattle.tpkt.proofs.laws.less_than_a_packet.Goals as goal

pub returns : goal.returns
returns c = less_than_a_packet
