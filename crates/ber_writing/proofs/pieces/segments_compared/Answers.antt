use Rattle.std.proofs.Common.{[], ◌∷◌, refl}
use Rattle.ber_writing.proofs.ComparedLaws.{octet_apart}
use Rattle.ber_writing.proofs.pieces.segments_compared.Goals as goal

pub returns : goal.returns
returns c =
    c.then.ensures (c.args.unused ∷ []) (c.args.other ∷ []) c.args.octets.now c.args.others.now
    (octet_apart (record { len = 1; other = 1; order = c.cmp.result }) c.args.unused c.args.other refl refl c.cmp.ensures) c.strings_compared.ensures
