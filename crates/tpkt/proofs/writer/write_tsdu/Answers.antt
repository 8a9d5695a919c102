use Rattle.std.proofs.Common.{◌-◌, arith}
use Rattle.tpkt.specs.Written.{written_tsdu}
use Rattle.tpkt.proofs.WrittenLaws.{goes_on, ends}
use Rattle.tpkt.proofs.writer.write_tsdu.Goals as goal

pub loop-rest-preserved : goal.loop-rest-preserved
loop-rest-preserved c =
    rw (c.in_ok-push_part.ensures, c.split_at.ensures.front, c.split_at.ensures.back)
    (goes_on (c.args.size - 3) c.loop-rest.out c.loop-rest.rest.now (written_tsdu c.args.size c.args.tsdu.now) (omega (arith, c.requires.least)) c.loop-rest-test.true c.loop-rest.invariant)

pub returns : goal.returns
returns c = rw c.in_ok-push_part-2.ensures (ends (c.args.size - 3) c.loop-rest.out c.loop-rest.rest.now (written_tsdu c.args.size c.args.tsdu.now) c.loop-rest-test.false c.loop-rest.invariant)
