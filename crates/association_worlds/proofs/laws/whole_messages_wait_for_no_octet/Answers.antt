use Rattle.association_worlds.proofs.Kept as kept
use Rattle.association_worlds.proofs.laws.whole_messages_wait_for_no_octet.Goals as goal

pub returns : goal.returns
returns c = record { law = kept.whole-waits }
