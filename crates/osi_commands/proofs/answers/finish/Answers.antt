use Rattle.std.proofs.Common.{ap, Err}
use Rattle.osi_commands.specs.Answers.{whole, failed, no_memory}
use Rattle.osi_commands.proofs.answers.finish.Goals as goal

pub returns-in-Ok-clause-ends : goal.returns-in-Ok-clause-ends
returns-in-Ok-clause-ends g c = whole c.in-Ok.ensures.ok_count (rw c.as_slice.ensures at c.in-Ok.ensures.ok)

pub returns-in-Err-Failed-clause-ends : goal.returns-in-Err-Failed-clause-ends
returns-in-Err-Failed-clause-ends g c = failed (c.in-Err-Failed.ensures.failed (ap (λ fault. Err fault) c.in-Err-Failed.field-0-is)) (rw c.as_slice.ensures at c.in-Err-Failed.ensures.err)

pub returns-clause-ends : goal.returns-clause-ends
returns-clause-ends g c = no_memory (c.in-Err-NoMemory.ensures.no_memory (ap (λ fault. Err fault) c.in-Err-NoMemory.field-0-is)) (rw c.as_slice.ensures at c.in-Err-NoMemory.ensures.err)
