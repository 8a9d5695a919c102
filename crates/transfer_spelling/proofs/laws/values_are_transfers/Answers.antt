use Rattle.transfer_spelling.proofs.Transfers.{values-transfers}
use Rattle.transfer_spelling.proofs.laws.values_are_transfers.Goals as goal

pub returns : goal.returns
returns c = record { law = values-transfers }
