use Rattle.std.proofs.Common.{length}
use Rattle.fixed_tables.proofs.values.+nth.Given as goal

abbrev pub decreases-nth : goal.decreases-nth
decreases-nth l = length l.parts.now
