use Rattle.std.proofs.Common.{◌+◌, ◌*◌}
use Rattle.asn1_types.proofs.defaults.+defaults.Given as goal

abbrev pub decreases-takes_default : goal.decreases-takes_default
decreases-takes_default l = 2 * l.of.0 + 1

abbrev pub decreases-row_takes_default : goal.decreases-row_takes_default
decreases-row_takes_default l = 2 * l.of.0
