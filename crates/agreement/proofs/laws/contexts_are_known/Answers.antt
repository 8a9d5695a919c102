use Rattle.agreement.proofs.ByTransfers.{all-no_abort}
use Rattle.agreement.proofs.Known.{contexts-known}
use Rattle.agreement.proofs.laws.contexts_are_known.Goals as goal

pub returns : goal.returns
returns c = record { law = λ setup. contexts-known setup (all-no_abort setup) }
