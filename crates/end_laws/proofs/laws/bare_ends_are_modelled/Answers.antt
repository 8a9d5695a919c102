use Rattle.end_laws.proofs.Premises as laws
use Rattle.end_laws.proofs.laws.bare_ends_are_modelled.Goals as goal

pub returns : goal.returns
returns c = record { modelled = laws.bare_modelled; takes = laws.bare_take }
