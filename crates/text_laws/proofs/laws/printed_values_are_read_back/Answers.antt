use Rattle.text_laws.proofs.Typed.{typed_back}
use Rattle.text_laws.proofs.laws.printed_values_are_read_back.Goals as goal

pub returns : goal.returns
returns c = λ rows n v rest sound noted fits m. typed_back rows sound noted n v rest fits m
