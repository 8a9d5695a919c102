use Rattle.std.proofs.Common.{◌≡◌, drop}
use Rattle.asn1_types.specs.Rows.{openings}
use Rattle.asn1_types.specs.Table.{clash, clashes_in_sequence}
use Rattle.asn1_types.proofs.clash.clashes_in_sequence.Given as goal

abbrev pub invariant-loop-index : goal.invariant-loop-index
invariant-loop-index l = clashes_in_sequence (clash (openings l.table)) (drop l.index l.parts) ≡ clashes_in_sequence (clash (openings l.table)) l.parts
