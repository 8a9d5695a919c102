use Rattle.std.proofs.Common.{◌≡◌, ◌+◌, ◌*◌, drop}
use Rattle.std.specs.List.{list_any, flat_map}
use Rattle.asn1_types.specs.Rows.{meets, openings}
use Rattle.asn1_types.proofs.opening.+meeting.Given as goal

abbrev pub decreases-any_meets : goal.decreases-any_meets
decreases-any_meets l = 3 * l.a.0

abbrev pub decreases-meet : goal.decreases-meet
decreases-meet l = 3 * l.a.0 + 2

abbrev pub decreases-meets_row : goal.decreases-meets_row
decreases-meets_row l = 3 * l.a.0 + 1

abbrev pub invariant-any_meets-loop-part : goal.invariant-any_meets-loop-part
invariant-any_meets-loop-part l =
    list_any (λ o. list_any (meets o) (openings l.table l.b.0)) (flat_map (λ p. openings l.table p.inner.0) (drop l.part-index l.parts)) ≡ list_any (λ o. list_any (meets o) (openings l.table l.b.0)) (flat_map (λ p. openings l.table p.inner.0) l.parts)
