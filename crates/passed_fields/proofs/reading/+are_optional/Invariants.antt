use Rattle.std.proofs.Common.{length}
use Rattle.passed_fields.proofs.reading.+are_optional.Given as goal

abbrev pub decreases-are_optional : goal.decreases-are_optional
decreases-are_optional l = length l.fields.now
