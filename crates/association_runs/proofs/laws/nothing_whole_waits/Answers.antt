use Rattle.association_runs.proofs.Waiting.{nothing-waits}
use Rattle.association_runs.proofs.laws.nothing_whole_waits.Goals as goal

pub returns : goal.returns
returns c = record { law = nothing-waits }
