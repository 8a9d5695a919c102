use Rattle.std.proofs.Common.{ap}
use Rattle.slab.specs.Slab.{get}
use Rattle.linked_ops.proofs.Steps.{put_back}
use Rattle.linked_ops.proofs.openings.enter.Goals as goal

pub returns-in-Err-clause-err : goal.returns-in-Err-clause-err
returns-in-Err-clause-err c = record {
  opened = c.in-Err.ensures.err;
  linked = λ p. ap (λ s. get s p) c.reserve.ensures.rest_kept;
  numbered = put_back c.args.key c.args.made c.args.numbers.now c.put.new.self c.take.new.self c.requires c.in_ok-put.ensures.ok c.take.ensures.taken;
}
