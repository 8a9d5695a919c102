use Rattle.std.proofs.Common.{◌≡◌, drop}
use Rattle.asn1_types.specs.ValueView.{values_of}
use Rattle.asn1_types.specs.Writing.{written}
use Rattle.ber_writing.specs.Short.{stand_behind}
use Rattle.ber_writing.proofs.order.stand_behind.Given as goal

abbrev pub invariant-loop-value : goal.invariant-loop-value
invariant-loop-value l = stand_behind (written l.table l.of.0) l.before (values_of (drop l.value-index l.others)) ≡ stand_behind (written l.table l.of.0) l.first (values_of l.others)
