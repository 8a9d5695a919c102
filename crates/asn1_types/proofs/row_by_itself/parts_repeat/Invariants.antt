use Rattle.std.proofs.Common.{◌≡◌, drop}
use Rattle.asn1_types.specs.Table.{agrees_later, parts_agree}
use Rattle.asn1_types.proofs.row_by_itself.parts_repeat.Given as goal

abbrev pub invariant-loop-index : goal.invariant-loop-index
invariant-loop-index l = agrees_later parts_agree (drop l.index l.parts) ≡ agrees_later parts_agree l.parts
