use Rattle.std.proofs.Common.{arith, drop}
use Rattle.ber_writing.proofs.Counts.{nat_more}
use Rattle.ber_writing.proofs.WrittenLoops.{nat_begin, nat_put}
use Rattle.ber_writing.proofs.fields.put_natural.Goals as goal

pub loop-high-init : goal.loop-high-init
loop-high-init c = record {
  place = omega arith;
  put = nat_begin c.args.number (drop c.args.end c.args.room.now);
}

pub put-start-requires-clause-room : goal.put-start-requires-clause-room
put-start-requires-clause-room c = omega (arith, nat_more c.loop-high.high c.loop-high-test.true)

pub loop-high-preserved : goal.loop-high-preserved
loop-high-preserved c = record {
  place = omega (arith, nat_more c.loop-high.high c.loop-high-test.true);
  put = nat_put c.loop-high.high (drop c.loop-high.start c.loop-high.room) _ _ c.loop-high-test.true c.put-start.ensures.put c.loop-high.invariant.put;
}
