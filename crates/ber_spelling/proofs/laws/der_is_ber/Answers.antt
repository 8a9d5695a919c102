use Rattle.ber_spelling.proofs.Lax.{der_is_ber}
use Rattle.ber_spelling.proofs.laws.der_is_ber.Goals as goal

pub returns : goal.returns
returns c = der_is_ber
