use Rattle.std.proofs.Common.{ap, ◌∙◌, Ok, arith}
use Rattle.osi_base.specs.Limits.{file_most}
use Rattle.osi_base.proofs.Whole.{ended}
use Rattle.osi_base.proofs.real_files.read_whole.Goals as goal

pub returns-in-Ok-eq0-clause-whole : goal.returns-in-Ok-eq0-clause-whole
returns-in-Ok-eq0-clause-whole g c =
    ended file_most _ _ _ _ _ _ (c.in-Ok-eq0.is ∙ ap (λ n. Ok n) c.in-Ok-eq0.field-0-test) c.loop.invariant.0 c.loop.invariant.1 c.read.ensures.bytes
    c.loop.block (omega arith) c.min-room.result (omega arith) (omega arith)
