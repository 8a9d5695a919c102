use Rattle.transfer_spelling.proofs.Writable.{transferables-writable}
use Rattle.transfer_spelling.proofs.laws.transferables_are_writable.Goals as goal

pub returns : goal.returns
returns c = record { law = transferables-writable }
