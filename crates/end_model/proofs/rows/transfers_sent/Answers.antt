use Rattle.end_model.proofs.Transfers.{part-sent, mark-in-activity, end-sent, start-sent, discard-sent}
use Rattle.end_model.proofs.rows.transfers_sent.Goals as goal

pub returns : goal.returns
returns c = record { rows = record { part = part-sent; mark = mark-in-activity; end = end-sent; start = start-sent; discard = discard-sent } }
