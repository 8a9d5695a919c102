use Rattle.std.proofs.Common.{refl}
use Rattle.run_cases.proofs.cases.values_are_taken_as_sent.Goals as goal

pub returns : goal.returns
returns c = record { invocation = (refl, refl); result = (refl, refl); broken = (refl, refl) }
