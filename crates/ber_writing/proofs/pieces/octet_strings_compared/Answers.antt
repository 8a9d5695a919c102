use Rattle.std.proofs.Common.{false}
use Rattle.ber_writing.proofs.pieces.octet_strings_compared.Goals as goal

pub returns : goal.returns
returns c = rw (c.in_ok-octets.ensures, c.in_ok-others.ensures) (c.whole.ensures false c.in_ok-octets.octets.now c.in_ok-others.others.now c.strings_compared.ensures)
