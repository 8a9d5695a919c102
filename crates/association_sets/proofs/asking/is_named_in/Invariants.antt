use Rattle.std.proofs.Common.{◌≡◌, drop}
use Rattle.association_ground.specs.end_rules.Sets.{is_named_in}
use Rattle.association_sets.proofs.asking.is_named_in.Given as goal

abbrev pub invariant-loop-alteration : goal.invariant-loop-alteration
invariant-loop-alteration l = is_named_in (drop l.alteration-index l.own) l.id ≡ is_named_in l.own l.id
