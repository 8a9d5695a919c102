use Rattle.std.proofs.Common.{length}
use Rattle.ber_writing.proofs.sort.+merge_sorted.Given as goal

abbrev pub decreases-merge_sorted : goal.decreases-merge_sorted
decreases-merge_sorted l = length l.values.items
