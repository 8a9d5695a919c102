use Rattle.std.proofs.Common.{false, ◌∷◌}
use Rattle.ber_writing.proofs.pieces.bit_strings_compared.Goals as goal

pub returns : goal.returns
returns c = rw (c.in_ok-unused.ensures, c.in_ok-other.ensures) (c.whole.ensures false (c.in_ok-unused.unused ∷ c.in_ok-unused.octets.now) (c.in_ok-other.other ∷ c.in_ok-other.others.now) c.segments_compared.ensures)
