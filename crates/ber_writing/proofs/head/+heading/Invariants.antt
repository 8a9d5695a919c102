use Rattle.std.proofs.Common.{◌+◌, ◌*◌}
use Rattle.ber_writing.proofs.head.+heading.Given as goal

abbrev pub decreases-head_of : goal.decreases-head_of
decreases-head_of l = 4 * l.of.0 + 3

abbrev pub decreases-row_head : goal.decreases-row_head
decreases-row_head l = 4 * l.of.0 + 2

abbrev pub decreases-choice_head : goal.decreases-choice_head
decreases-choice_head l = 4 * l.of.0 + 1

abbrev pub decreases-alternative_head : goal.decreases-alternative_head
decreases-alternative_head l = 4 * l.of.0
