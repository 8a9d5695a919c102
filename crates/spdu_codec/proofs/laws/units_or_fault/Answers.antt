use Rattle.spdu_codec.proofs.FirstFaultLaws.{either, never_both, one_first}
use Rattle.spdu_codec.proofs.laws.units_or_fault.Goals as goal

pub returns : goal.returns
returns c = record { either = either; not_both = λ octets words f fits a b. never_both octets words f fits a b; one = λ octets f g fits a b. one_first octets f g fits a b }
