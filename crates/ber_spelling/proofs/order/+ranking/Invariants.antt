use Rattle.std.proofs.Common.{◌+◌, ◌*◌}
use Rattle.ber_spelling.proofs.order.+ranking.Given as goal

abbrev pub decreases-rank_of : goal.decreases-rank_of
decreases-rank_of l = 3 * l.of.0 + 2

abbrev pub decreases-rank_by : goal.decreases-rank_by
decreases-rank_by l = 3 * l.of.0 + 1

abbrev pub decreases-rank_of_chosen : goal.decreases-rank_of_chosen
decreases-rank_of_chosen l = 3 * l.of.0
