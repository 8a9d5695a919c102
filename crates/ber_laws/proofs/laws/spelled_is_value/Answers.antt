use Rattle.ber_laws.proofs.WholeTexts.{spelled_is_value}
use Rattle.ber_laws.proofs.laws.spelled_is_value.Goals as goal

pub returns : goal.returns
returns c = spelled_is_value
