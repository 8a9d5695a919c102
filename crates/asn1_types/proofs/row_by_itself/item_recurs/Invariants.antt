use Rattle.std.proofs.Common.{◌≡◌, drop}
use Rattle.std.specs.List.{list_any}
use Rattle.asn1_types.specs.Table.{items_agree}
use Rattle.asn1_types.proofs.row_by_itself.item_recurs.Given as goal

abbrev pub invariant-loop-other : goal.invariant-loop-other
invariant-loop-other l = list_any (items_agree l.item) (drop l.other-index l.others) ≡ list_any (items_agree l.item) l.others
