use Rattle.end_model.proofs.FaultlessOthers.{transfers-may_be_taken}
use Rattle.end_model.proofs.takings.transfers_may_be_taken.Goals as goal

pub returns : goal.returns
returns c = record { rows = transfers-may_be_taken }
