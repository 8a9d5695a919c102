use Rattle.end_model.proofs.TransferRows.{discard_ack-taken}
use Rattle.end_model.proofs.takings.discards_taken.Goals as goal

pub returns : goal.returns
returns c = record { rows = record { discard_ack = discard_ack-taken } }
