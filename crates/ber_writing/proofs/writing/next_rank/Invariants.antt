use Rattle.std.proofs.Common.{◌≡◌, ℕ, ◌≤◌, ◌<◌, [], drop, length}
use Rattle.asn1_types.specs.ValueView.{parts_of}
use Rattle.asn1_types.specs.Writing.{parts_contents, of_rank, writes}
use Rattle.ber_writing.proofs.writing.next_rank.Given as goal

abbrev pub decreases-loop-index : goal.decreases-loop-index
decreases-loop-index l = l.index

abbrev pub invariant-loop-index : goal.invariant-loop-index
invariant-loop-index l = record {
  parts : l.index ≤ length l.parts;
  values : l.index ≤ length l.values;
  within : l.next ≤ l.bound;
  none : (k : ℕ) → l.next ≤ k → k < l.bound → parts_contents (of_rank k (writes l.table)) (drop l.index l.parts) (parts_of (drop l.index l.values)) ≡ [];
}
