use Rattle.std.proofs.Common.{arith}
use Rattle.asn1_types.specs.ValueView.{parts_of}
use Rattle.asn1_types.specs.Writing.{writes}
use Rattle.ber_writing.proofs.SetCounts.{set_length}
use Rattle.ber_writing.proofs.octet.set_len.Goals as goal

pub returns : goal.returns
returns c =
    let same = set_length (writes c.args.table.now) c.args.parts.now (parts_of c.args.values.now) in
    omega (arith, same, c.parts_len.ensures, c.requires)
