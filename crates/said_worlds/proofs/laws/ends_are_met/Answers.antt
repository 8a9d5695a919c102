use Rattle.said_worlds.proofs.Existing.{ends-met}
use Rattle.said_worlds.proofs.laws.ends_are_met.Goals as goal

pub returns : goal.returns
returns c = record { law = ends-met }
