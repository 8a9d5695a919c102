use Rattle.text_laws.proofs.Forms.{form_back}
use Rattle.text_laws.proofs.laws.printed_forms_are_read_back.Goals as goal

pub returns : goal.returns
returns c = form_back
