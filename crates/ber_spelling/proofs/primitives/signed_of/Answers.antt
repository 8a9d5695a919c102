use Rattle.std.proofs.Common.{◌+◌, ◌∙◌, ap, arith}
use Rattle.asn1_types.specs.Whole.{number_256}
use Rattle.osi_base.specs.Octets.{AreOctets}
use Rattle.ber_spelling.proofs.Numbers.{number_high, signed_low, signed_high, again}
use Rattle.ber_spelling.proofs.primitives.signed_of.Goals as goal

pub overflow_add-number : goal.overflow_add-number
overflow_add-number c =
    let octets : AreOctets c.args.octets.now = record { each = λ i. omega (arith, c.type_inv.octets i) } in
    omega (arith, number_high 0 c.args.octets.now octets)

pub returns-then-octets-lt128 : goal.returns-then-octets-lt128
returns-then-octets-lt128 c =
    let os = c.args.octets.now in
    let octets : AreOctets os = record { each = λ i. omega (arith, c.type_inv.octets i) } in
    again c.cast_signed.result c.number_256-number.result (number_256 0 os) c.cast_signed.ensures (omega arith) c.number_256-number.ensures
    ∙ signed_low os octets c.requires.some c.requires.few c.if-octets-lt128.true

pub returns-else-octets-lt128 : goal.returns-else-octets-lt128
returns-else-octets-lt128 c =
    let os = c.args.octets.now in
    let octets : AreOctets os = record { each = λ i. omega (arith, c.type_inv.octets i) } in
    again c.cast_signed-else-octets-lt128.result (c.number_256-number.result + c.ones_above.result) (number_256 0 os + c.ones_above.result) c.cast_signed-else-octets-lt128.ensures
    (omega (arith, number_high 0 os octets)) (ap (λ n. n + c.ones_above.result) c.number_256-number.ensures)
    ∙ signed_high os c.ones_above.result octets c.requires.some c.requires.few c.if-octets-lt128.false c.ones_above.ensures
