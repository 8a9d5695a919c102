use Rattle.std.proofs.Common.{◌≡◌, drop}
use Rattle.value_reading.specs.Typed.{item_named}
use Rattle.value_reading.proofs.typed.item_named.Given as goal

abbrev pub invariant-loop-item : goal.invariant-loop-item
invariant-loop-item l = item_named l.items l.name ≡ item_named (drop l.item-index l.items) l.name
