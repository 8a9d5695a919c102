use Rattle.std.proofs.Common.{◌≡◌, drop}
use Rattle.std.specs.List.{list_any}
use Rattle.asn1_types.specs.Table.{parts_agree}
use Rattle.asn1_types.proofs.row_by_itself.part_recurs.Given as goal

abbrev pub invariant-loop-other : goal.invariant-loop-other
invariant-loop-other l = list_any (parts_agree l.part) (drop l.other-index l.others) ≡ list_any (parts_agree l.part) l.others
