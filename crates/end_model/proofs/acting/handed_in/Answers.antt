use Rattle.end_model.proofs.HandingRows.{invoke-in}
use Rattle.end_model.proofs.OutcomeRows.{answer-in, refuse-in}
use Rattle.end_model.proofs.acting.handed_in.Goals as goal

pub returns : goal.returns
returns c = record { rows = record { invoke = invoke-in; answer = answer-in; refuse = refuse-in } }
