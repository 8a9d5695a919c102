use Rattle.transfer_codec.proofs.Codec.{has-codec}
use Rattle.transfer_codec.proofs.laws.transfers_have_a_codec.Goals as goal

pub returns : goal.returns
returns c = record { law = has-codec }
