use Rattle.agreement.proofs.ByTransfers.{all-no_abort, others-own}
use Rattle.agreement.proofs.Operations.{one-operation}
use Rattle.agreement.proofs.Items.{opens-unmade}
use Rattle.agreement.proofs.laws.one_operation.Goals as goal

pub returns : goal.returns
returns c = record { law = λ setup. one-operation setup (others-own setup) (opens-unmade all-no_abort setup) }
