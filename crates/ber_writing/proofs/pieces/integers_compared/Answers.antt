use Rattle.std.proofs.Common.{false, rules}
use mir.Syntax.{w64}
use mir.Val.{SFits}
use Rattle.std.proofs.lemmas.Int.{to_z-of_z}
use Rattle.asn1_types.specs.Writing.{integer_octets}
use Rattle.ber_writing.proofs.pieces.integers_compared.Goals as goal

pub returns : goal.returns
returns c =
    let m : SFits w64 c.in_ok-number.number = search rules in
    let n : SFits w64 c.in_ok-other.other = search rules in
    let h = rw (to_z-of_z w64 c.in_ok-number.number m, to_z-of_z w64 c.in_ok-other.other n) at c.numbers_compared.ensures in
    rw (c.in_ok-number.ensures, c.in_ok-other.ensures) (c.whole.ensures false (integer_octets c.in_ok-number.number) (integer_octets c.in_ok-other.other) h)
