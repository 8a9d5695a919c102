use Rattle.end_wire.proofs.WireLaws.{one_message}
use Rattle.end_wire.proofs.laws.one_message.Goals as goal

pub returns : goal.returns
returns c = one_message
