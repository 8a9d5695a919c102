use Rattle.association_worlds.proofs.Kept as kept
use Rattle.association_worlds.proofs.laws.octets_are_messages.Goals as goal

pub returns : goal.returns
returns c = record { law = kept.spelled }
