use Rattle.end_laws.proofs.Premises as laws
use Rattle.end_laws.proofs.laws.direct_ends_are_modelled.Goals as goal

pub returns : goal.returns
returns c = record { modelled = laws.direct_modelled; takes = laws.direct_take }
