use Rattle.std.proofs.Common.{arith}
use Rattle.std.specs.List.{flat_map}
use Rattle.packed_codec.specs.ObjectIds.{base_128}
use Rattle.packed_codec.proofs.Room.{unfilled, room_next, fill, filled}
use Rattle.packed_codec.proofs.WriteLaws.{numbers_cell, numbers_done}
use Rattle.packed_codec.proofs.octets.put_each.Goals as goal

pub loop-number-init : goal.loop-number-init
loop-number-init c = unfilled (flat_map base_128 c.args.numbers.now) c.args.at c.args.out.now

pub put_base_128-behind-requires : goal.put_base_128-behind-requires
put_base_128-behind-requires c =
    room_next _ _ _ _ c.args.at c.loop-number.behind c.args.out.now c.loop-number.out (numbers_cell c.args.numbers.now c.loop-number.number-index c.loop-number-test.true) c.loop-number.invariant c.requires

pub loop-number-preserved : goal.loop-number-preserved
loop-number-preserved c =
    fill _ _ _ _ c.args.at c.loop-number.behind c.put_base_128-behind.result c.args.out.now c.loop-number.out c.put_base_128-behind.new.out (numbers_cell c.args.numbers.now c.loop-number.number-index c.loop-number-test.true) c.requires c.loop-number.invariant c.put_base_128-behind.ensures

pub returns : goal.returns
returns c =
    filled _ _ c.args.at c.loop-number.behind c.args.out.now c.loop-number.out (numbers_done c.args.numbers.now c.loop-number.number-index (omega arith)) c.loop-number.invariant
