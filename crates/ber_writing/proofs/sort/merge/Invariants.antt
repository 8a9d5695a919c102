use Rattle.std.proofs.Common.{◌≡◌, ◌+◌, ◌++◌, length}
use Rattle.asn1_types.specs.Writing.{written}
use Rattle.ber_writing.specs.Merging.{merged}
use Rattle.ber_writing.proofs.sort.merge.Given as goal

abbrev pub invariant-loop-back : goal.invariant-loop-back
invariant-loop-back l = l.both.items ++ merged (written l.table l.of.0) l.front.items l.back.items ≡ merged (written l.table l.of.0) l.fn.front.items l.fn.back.items

abbrev pub decreases-loop-back : goal.decreases-loop-back
decreases-loop-back l = length l.front.items + length l.back.items
