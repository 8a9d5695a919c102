use Rattle.agreement.proofs.ByTransfers.{all-no_abort, others-own}
use Rattle.agreement.proofs.Items.{opens-unmade}
use Rattle.agreement.proofs.Operations.{one-invocation}
use Rattle.agreement.proofs.laws.one_invocation.Goals as goal

pub returns : goal.returns
returns c = record { law = λ setup. one-invocation setup (others-own setup) (opens-unmade all-no_abort setup) }
