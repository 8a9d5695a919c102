use Rattle.module_reading.proofs.Faultless as faultless
use Rattle.module_reading.proofs.laws.one_fault.Goals as goal

pub returns : goal.returns
returns c octets line column l d kind k = faultless.one_fault octets line column l d kind k
