use Rattle.std.proofs.Common.{◌≡◌, ◌≤◌, ◌-◌, ◌+◌, ◌*◌, length}
use Rattle.asn1_types.specs.Whole.{behind_values, behind_whole}
use Rattle.asn1_types.proofs.whole.+wholes.Given as goal

abbrev pub decreases-behind_values : goal.decreases-behind_values
decreases-behind_values l = 2 * l.levels + 1

abbrev pub decreases-behind_whole : goal.decreases-behind_whole
decreases-behind_whole l = 2 * l.levels

abbrev pub invariant-behind_values-loop-turn : goal.invariant-behind_values-loop-turn
invariant-behind_values-loop-turn l = record {
  going : behind_values (behind_whole l.levels) (l._turn-end - l._turn) l.rest ≡ behind_values (behind_whole l.levels) (length l.octets) l.octets;
  within : length l.rest ≤ length l.octets;
}
