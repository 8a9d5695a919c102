use Rattle.std.proofs.Common.{◌≡◌, max, drop, slice_index}
use Rattle.asn1_types.specs.Rows.{greatest, rows_of_parts}
use Rattle.asn1_types.proofs.nesting.greatest_part.Given as goal

abbrev pub invariant-loop-part : goal.invariant-loop-part
invariant-loop-part l = max l.most (greatest (λ n. slice_index l.nestings n) (rows_of_parts (drop l.part-index l.parts))) ≡ greatest (λ n. slice_index l.nestings n) (rows_of_parts l.parts)
