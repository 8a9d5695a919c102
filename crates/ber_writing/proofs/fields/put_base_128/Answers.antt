use Rattle.std.proofs.Common.{arith, drop}
use Rattle.ber_writing.proofs.Counts.{base_128_more, high_more}
use Rattle.ber_writing.proofs.WrittenLoops.{high_begin, high_put}
use Rattle.ber_writing.proofs.fields.put_base_128.Goals as goal

pub put-start-requires-clause-room : goal.put-start-requires-clause-room
put-start-requires-clause-room c = omega (arith, base_128_more c.args.number)

pub loop-high-init : goal.loop-high-init
loop-high-init c = record {
  place = omega (arith, base_128_more c.args.number);
  put = high_begin c.args.number (drop c.args.end c.args.room.now) _ c.put-start.ensures.put;
}

pub put-start-requires-in-loop-high-clause-room : goal.put-start-requires-in-loop-high-clause-room
put-start-requires-in-loop-high-clause-room c = omega (arith, high_more c.loop-high.high c.loop-high-test.true)

pub loop-high-preserved : goal.loop-high-preserved
loop-high-preserved c = record {
  place = omega (arith, high_more c.loop-high.high c.loop-high-test.true);
  put = high_put c.loop-high.high (drop c.loop-high.start c.loop-high.room) _ _ c.loop-high-test.true c.put-start-in-loop-high.ensures.put c.loop-high.invariant.put;
}
