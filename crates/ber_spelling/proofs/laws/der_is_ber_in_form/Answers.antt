use Rattle.ber_spelling.proofs.DerForms.{der_is_ber_in_form}
use Rattle.ber_spelling.proofs.laws.der_is_ber_in_form.Goals as goal

pub returns : goal.returns
returns c = der_is_ber_in_form
