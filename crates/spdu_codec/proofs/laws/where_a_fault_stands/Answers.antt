use Rattle.spdu_codec.proofs.FaultShape.{first_within, first_stays}
use Rattle.spdu_codec.proofs.laws.where_a_fault_stands.Goals as goal

pub returns : goal.returns
returns c = record { within = first_within; stays = λ octets more f ne nm w. first_stays octets more f ne nm w }
