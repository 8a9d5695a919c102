use Rattle.end_wire.proofs.ContentLaws.{one_content}
use Rattle.end_wire.proofs.laws.one_content.Goals as goal

pub returns : goal.returns
returns c = λ tables syntax octets a b readable p q. one_content tables syntax octets readable a b p q
