use Rattle.std.proofs.Common.{◌≡◌, drop}
use Rattle.asn1_types.specs.Rows.{openings}
use Rattle.asn1_types.specs.Table.{clash, clashes_in_run}
use Rattle.asn1_types.proofs.clash.clashes_in_run.Given as goal

abbrev pub invariant-loop-other : goal.invariant-loop-other
invariant-loop-other l = clashes_in_run (clash (openings l.table)) l.part (drop l.other-index l.others) ≡ clashes_in_run (clash (openings l.table)) l.part l.others
