use Rattle.association_worlds.proofs.Heard as heard
use Rattle.association_worlds.proofs.laws.meant_is_heard.Goals as goal

pub returns : goal.returns
returns c = record { law = heard.meant-heard }
