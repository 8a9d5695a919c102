use Rattle.end_laws.proofs.Premises as laws
use Rattle.end_laws.proofs.laws.direct_values_are_as_sent.Goals as goal

pub returns : goal.returns
returns c = record { law = laws.direct_as_sent }
