use Rattle.std.proofs.Common.{◌≡◌, drop}
use Rattle.std.specs.List.{list_any}
use Rattle.asn1_types.specs.Rows.{openings}
use Rattle.asn1_types.specs.Table.{clash}
use Rattle.asn1_types.proofs.clash.clashes_with.Given as goal

abbrev pub invariant-loop-other : goal.invariant-loop-other
invariant-loop-other l = list_any (clash (openings l.table) l.part) (drop l.other-index l.others) ≡ list_any (clash (openings l.table) l.part) l.others
