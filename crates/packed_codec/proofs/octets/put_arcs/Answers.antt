use Rattle.packed_codec.proofs.Room.{both_as}
use Rattle.packed_codec.proofs.Texts.{arcs_text}
use Rattle.packed_codec.proofs.octets.put_arcs.Goals as goal

pub returns-in-len2-up : goal.returns-in-len2-up
returns-in-len2-up c =
    both_as _ _ _ c.args.at c.put_base_128-behind.result c.put_each.result c.args.out.now c.put_base_128-behind.new.out c.put_each.new.out (arcs_text c.args.arcs.now c.in-len2-up.len_at_least) c.requires c.put_base_128-behind.ensures c.put_each.ensures
