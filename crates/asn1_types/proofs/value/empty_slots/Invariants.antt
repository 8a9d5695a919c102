use Rattle.std.proofs.Common.{◌≡◌, ◌++◌, drop}
use Rattle.asn1_types.specs.ValueView.{empty_slots}
use Rattle.asn1_types.proofs.value.empty_slots.Given as goal

abbrev pub invariant-loop-part : goal.invariant-loop-part
invariant-loop-part l = l.slots.items ++ empty_slots (drop l._part-index l.parts) ≡ empty_slots l.parts
