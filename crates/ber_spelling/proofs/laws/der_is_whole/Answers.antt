use Rattle.ber_spelling.proofs.WholeSpelled.{der_is_whole}
use Rattle.ber_spelling.proofs.laws.der_is_whole.Goals as goal

pub returns : goal.returns
returns c = λ rows n limit v spelled sound. der_is_whole rows sound n limit v spelled
