use Rattle.std.proofs.Common.{arith, drop}
use Rattle.ber_writing.proofs.Counts.{base_256_is, low_more}
use Rattle.ber_writing.proofs.WrittenLoops.{low_begin, low_put}
use Rattle.ber_writing.proofs.fields.put_base_256.Goals as goal

pub loop-high-init : goal.loop-high-init
loop-high-init c = record {
  place = omega (arith, base_256_is c.args.number);
  put = low_begin c.args.number (drop c.args.end c.args.room.now);
}

pub put-start-requires-clause-room : goal.put-start-requires-clause-room
put-start-requires-clause-room c = omega (arith, low_more c.loop-high.high c.loop-high-test.true)

pub loop-high-preserved : goal.loop-high-preserved
loop-high-preserved c = record {
  place = omega (arith, low_more c.loop-high.high c.loop-high-test.true);
  put = low_put c.loop-high.high (drop c.loop-high.start c.loop-high.room) _ _ c.loop-high-test.true c.put-start.ensures.put c.loop-high.invariant.put;
}
