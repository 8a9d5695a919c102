use Rattle.std.proofs.Common.{◌≡◌, drop}
use Rattle.asn1_types.specs.Table.{agrees_later, items_agree}
use Rattle.asn1_types.proofs.row_by_itself.items_repeat.Given as goal

abbrev pub invariant-loop-index : goal.invariant-loop-index
invariant-loop-index l = agrees_later items_agree (drop l.index l.items) ≡ agrees_later items_agree l.items
