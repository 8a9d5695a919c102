use Rattle.association_worlds.proofs.Calm as calm
use Rattle.association_worlds.proofs.laws.nothing_fails.Goals as goal

pub returns : goal.returns
returns c = record { law = calm.nothing-fails }
