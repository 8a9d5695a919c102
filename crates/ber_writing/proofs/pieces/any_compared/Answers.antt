use Rattle.std.proofs.Common.{true}
use Rattle.ber_writing.proofs.pieces.any_compared.Goals as goal

pub returns-in-Some : goal.returns-in-Some
returns-in-Some c =
    rw (c.in-Some.is, c.in_ok-octets.ensures, c.in_ok-others.ensures) (c.whole.ensures true c.in_ok-octets.octets.now c.in_ok-others.others.now c.strings_compared.ensures)
