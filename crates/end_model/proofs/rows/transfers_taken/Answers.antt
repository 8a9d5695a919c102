use Rattle.end_model.proofs.Transfers.{mark-confirmed, interrupt-confirmed}
use Rattle.end_model.proofs.rows.transfers_taken.Goals as goal

pub returns : goal.returns
returns c = record { rows = record { mark_ack = mark-confirmed; interrupt_ack = interrupt-confirmed } }
