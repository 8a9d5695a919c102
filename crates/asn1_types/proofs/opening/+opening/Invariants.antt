use Rattle.std.proofs.Common.{◌≡◌, ◌+◌, ◌*◌, drop}
use Rattle.std.specs.List.{list_any, flat_map}
use Rattle.asn1_types.specs.Rows.{allows, openings}
use Rattle.asn1_types.proofs.opening.+opening.Given as goal

abbrev pub decreases-any_opens : goal.decreases-any_opens
decreases-any_opens l = 3 * l.of.0

abbrev pub decreases-opens : goal.decreases-opens
decreases-opens l = 3 * l.of.0 + 2

abbrev pub decreases-opens_row : goal.decreases-opens_row
decreases-opens_row l = 3 * l.of.0 + 1

abbrev pub invariant-any_opens-loop-part : goal.invariant-any_opens-loop-part
invariant-any_opens-loop-part l =
    list_any (allows l.class l.number) (flat_map (λ p. openings l.table p.inner.0) (drop l.part-index l.parts)) ≡ list_any (allows l.class l.number) (flat_map (λ p. openings l.table p.inner.0) l.parts)
