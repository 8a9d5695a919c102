use Rattle.agreement.proofs.Answered.{answered-once}
use Rattle.agreement.proofs.ByTransfers.{invoked-once}
use Rattle.agreement.proofs.laws.answered_once.Goals as goal

pub returns : goal.returns
returns c = record { law = λ setup. answered-once setup (invoked-once setup) }
