use Rattle.std.proofs.Common.{◌≡◌, take}
use Rattle.std.specs.Prelude.{map}
use Rattle.fixed_tables.proofs.lists.list_of.Given as goal

abbrev pub invariant-loop-item : goal.invariant-loop-item
invariant-loop-item g l = l.values.items ≡ map g.T.InValue.item_value (take l.item-index l.items)
