use Rattle.operation_notation.proofs.ModuleLaws.{one_reading}
use Rattle.operation_notation.proofs.laws.one_reading.Goals as goal

pub returns : goal.returns
returns c = one_reading
