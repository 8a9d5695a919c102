use Rattle.std.proofs.Common.{false, [], ◌∷◌}
use Rattle.ber_writing.proofs.pieces.truths_compared.Goals as goal

pub returns : goal.returns
returns c = rw (c.in_ok-octet.ensures, c.in_ok-other.ensures) (c.whole.ensures false (c.in_ok-octet.octet ∷ []) (c.in_ok-other.other ∷ []) c.strings_compared.ensures)
