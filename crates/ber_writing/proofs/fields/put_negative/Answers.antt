use Rattle.std.proofs.Common.{arith, drop, []}
use Rattle.asn1_types.specs.Writing.{natural_octets}
use Rattle.ber_writing.proofs.Counts.{nat_more, nat_one, turned_length}
use Rattle.ber_writing.proofs.WrittenLoops.{turned_put, turned_end}
use Rattle.ber_writing.proofs.fields.put_negative.Goals as goal

pub put-start-requires-clause-room : goal.put-start-requires-clause-room
put-start-requires-clause-room c = omega (arith, nat_more c.loop-high.high c.loop-high-test.true, turned_length (natural_octets c.args.number c.args.number []))

pub put-requires-clause-room : goal.put-requires-clause-room
put-requires-clause-room c = omega (arith, nat_one c.loop-high.high c.loop-high-test.false, turned_length (natural_octets c.args.number c.args.number []))

pub loop-high-preserved : goal.loop-high-preserved
loop-high-preserved c = record {
  place = omega (arith, nat_more c.loop-high.high c.loop-high-test.true);
  put = turned_put c.loop-high.high (drop c.loop-high.start c.loop-high.room) _ _ c.loop-high-test.true c.put-start.ensures.put c.loop-high.invariant.put;
}

pub returns-clause-start : goal.returns-clause-start
returns-clause-start c = omega (arith, nat_one c.loop-high.high c.loop-high-test.false, turned_length (natural_octets c.args.number c.args.number []))

pub returns-clause-put : goal.returns-clause-put
returns-clause-put c = turned_end c.loop-high.high (drop c.loop-high.start c.loop-high.room) _ _ c.loop-high-test.false c.loop-high.invariant.put c.put.ensures.put
