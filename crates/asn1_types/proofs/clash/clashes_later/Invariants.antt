use Rattle.std.proofs.Common.{◌≡◌, drop}
use Rattle.asn1_types.specs.Rows.{openings}
use Rattle.asn1_types.specs.Table.{clash, agrees_later}
use Rattle.asn1_types.proofs.clash.clashes_later.Given as goal

abbrev pub invariant-loop-index : goal.invariant-loop-index
invariant-loop-index l = agrees_later (clash (openings l.table)) (drop l.index l.parts) ≡ agrees_later (clash (openings l.table)) l.parts
