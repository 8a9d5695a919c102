use Rattle.std.proofs.Common.{length, arith, subst, ℕ, ◌-◌, ◌+◌, ◌≡◌}
use Rattle.byteorder.specs.Endian.{big_bytes}
use Rattle.packed_codec.specs.ObjectIds.{arcs_octets}
use Rattle.packed_codec.specs.Writing.{IsPut}
use Rattle.packed_codec.proofs.Room.{before}
use Rattle.packed_codec.proofs.octets.put_object_id.Goals as goal

pub returns : goal.returns
returns c =
    let text = arcs_octets c.args.arcs.now in
    let n : c.put_arcs-end.result - (c.args.at + 4) ≡ length text = (let e = c.put_arcs-end.ensures.ends in omega arith) in
    let put : IsPut (big_bytes 4 (length text)) c.args.at c.put_arcs-end.new.out c.put_count.new.out c.put_count.result =
    subst (λ (k : ℕ). IsPut (big_bytes 4 k) c.args.at c.put_arcs-end.new.out c.put_count.new.out c.put_count.result) n c.put_count.ensures in
    before (big_bytes 4 (length text)) text c.args.at (c.args.at + 4) c.put_arcs-end.result c.put_count.result c.args.out.now c.put_arcs-end.new.out c.put_count.new.out c.requires (omega arith) c.put_arcs-end.ensures put
