use Rattle.std.proofs.Common.{◌≡◌, map, take}
use Rattle.asn1_types.specs.FixedRows.{part}
use Rattle.fixed_tables.proofs.building.parts.Given as goal

abbrev pub invariant-loop-name : goal.invariant-loop-name
invariant-loop-name l = l.parts.items ≡ map (λ t. part t.0.now t.1 t.2) (take l.name-index l.told)
