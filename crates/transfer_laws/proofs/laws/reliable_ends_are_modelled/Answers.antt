use Rattle.transfer_laws.proofs.Premises as laws
use Rattle.transfer_laws.proofs.laws.reliable_ends_are_modelled.Goals as goal

pub returns : goal.returns
returns c = record { modelled = laws.ends-modelled; takes = laws.ends-take }
