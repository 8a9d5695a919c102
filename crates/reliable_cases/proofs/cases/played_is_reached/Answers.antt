use Rattle.reliable_cases.proofs.Reached.{played-reached}
use Rattle.reliable_cases.proofs.cases.played_is_reached.Goals as goal

pub returns : goal.returns
returns c = record { law = played-reached }
