use Rattle.std.proofs.Common.{length}
use Rattle.passed_fields.proofs.reading.+known.Given as goal

abbrev pub decreases-known : goal.decreases-known
decreases-known l = length l.fields.now
