use Rattle.ber_spelling.proofs.Wholes.{whole_is}
use Rattle.ber_spelling.proofs.WholeValues.{spelled_is_read}
use Rattle.ber_spelling.proofs.Written.{written_spelled}
use Rattle.asn1_types.specs.Writing.{written}
use Rattle.ber_spelling.proofs.laws.written_is_read.Goals as goal

pub returns : goal.returns
returns c = λ rows n v sound e strict limit rest most le. spelled_is_read rows n strict limit v (written rows n v) rest sound (written_spelled whole_is rows sound n v e strict limit most le)
