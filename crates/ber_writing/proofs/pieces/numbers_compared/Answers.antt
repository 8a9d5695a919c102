use Rattle.std.proofs.Common.{◌∙◌, arith}
use mir.Syntax.{w64}
use Rattle.std.proofs.lemmas.Int.{to_z-of_z}
use Rattle.asn1_types.specs.Writing.{integer_octets}
use Rattle.ber_writing.specs.Comparing.{compared}
use Rattle.ber_writing.proofs.ComparedLaws.{room_front}
use Rattle.ber_writing.proofs.pieces.numbers_compared.Goals as goal

pub returns : goal.returns
returns c =
    let a = to_z-of_z w64 c.args.a c.ranges.a in
    let b = to_z-of_z w64 c.args.b c.ranges.b in
    let x = rw a at c.integer_len-len.ensures in
    let y = rw b at c.integer_len-other.ensures in
    let p = rw a at c.put_integer.ensures in
    let q = rw b at c.put_integer-2.ensures in
    record {
      len = omega (arith, x.length, x.few);
      other = omega (arith, y.length, y.few);
      order = λ m n. c.octets_compared.ensures
          ∙ (λ i. compared (room_front (integer_octets c.args.a) c.put_integer.new.room _ _ c.integer_len-len.result p.start x.length p.put i)
          (room_front (integer_octets c.args.b) c.put_integer-2.new.room _ _ c.integer_len-other.result q.start y.length q.put i));
    }
