use Rattle.std.proofs.Common.{◌≡◌, drop}
use Rattle.asn1_types.specs.Writing.{written}
use Rattle.asn1_types.specs.Rising.{is_less}
use Rattle.ber_writing.proofs.order.each_less.Given as goal

abbrev pub invariant-loop-index : goal.invariant-loop-index
invariant-loop-index l = is_less (drop l.index (written l.table l.of.0 l.a)) (drop l.index (written l.table l.of.0 l.b)) ≡ is_less (written l.table l.of.0 l.a) (written l.table l.of.0 l.b)
