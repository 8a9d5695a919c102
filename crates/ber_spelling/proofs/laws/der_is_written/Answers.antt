use Rattle.ber_spelling.proofs.UniqueRows.{der_written}
use Rattle.ber_spelling.proofs.laws.der_is_written.Goals as goal

pub returns : goal.returns
returns c = der_written
