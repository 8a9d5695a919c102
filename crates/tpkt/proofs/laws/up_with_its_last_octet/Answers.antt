use Rattle.tpkt.proofs.StreamLaws.{up_with_its_last_octet}
use Rattle.tpkt.proofs.laws.up_with_its_last_octet.Goals as goal

pub returns : goal.returns
returns c = up_with_its_last_octet
