use Rattle.std.proofs.Common.{length}
use Rattle.passed_fields.proofs.reading.+passes.Given as goal

abbrev pub decreases-passes : goal.decreases-passes
decreases-passes l = length l.passed.now
