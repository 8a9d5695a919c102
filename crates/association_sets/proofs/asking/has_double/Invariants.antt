use Rattle.std.proofs.Common.{◌≡◌, drop}
use Rattle.association_ground.specs.end_rules.Altering.{has_double}
use Rattle.association_sets.proofs.asking.has_double.Given as goal

abbrev pub invariant-loop-i : goal.invariant-loop-i
invariant-loop-i l = has_double (drop l.i l.ids) ≡ has_double l.ids
