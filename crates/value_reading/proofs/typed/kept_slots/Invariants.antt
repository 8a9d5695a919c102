use Rattle.std.proofs.Common.{◌≡◌, ◌++◌, drop}
use Rattle.std.specs.Vec.Iter.{into_iter_items}
use Rattle.value_reading.specs.Typed.{kept_slots}
use Rattle.value_reading.proofs.typed.kept_slots.Given as goal

abbrev pub invariant-loop-part : goal.invariant-loop-part
invariant-loop-part l = l.kept.items ++ kept_slots (drop l.part-index l.parts) (into_iter_items l.rest) ≡ kept_slots l.parts l.fn.slots.items
