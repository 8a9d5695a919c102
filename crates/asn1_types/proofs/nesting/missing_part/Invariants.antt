use Rattle.std.proofs.Common.{◌≡◌, drop}
use Rattle.asn1_types.specs.Rows.{rows_of_parts}
use Rattle.asn1_types.specs.Table.{first_from}
use Rattle.asn1_types.proofs.nesting.missing_part.Given as goal

abbrev pub invariant-loop-part : goal.invariant-loop-part
invariant-loop-part l = first_from l.count (rows_of_parts (drop l.part-index l.parts)) ≡ first_from l.count (rows_of_parts l.parts)
