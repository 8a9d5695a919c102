use Rattle.std.proofs.Common.{◌≡◌, ◌+◌, ◌*◌, take}
use Rattle.asn1_types.specs.Value.{depth, depth_of_parts, depth_of_values}
use Rattle.asn1_types.specs.ValueView.{parts_of, values_of}
use Rattle.asn1_types.proofs.value.+copying.Given as goal

abbrev pub decreases-copied : goal.decreases-copied
decreases-copied l = 2 * depth l.value.now + 1

abbrev pub decreases-copied_parts : goal.decreases-copied_parts
decreases-copied_parts l = 2 * depth_of_parts (parts_of l.parts.now)

abbrev pub decreases-copied_list : goal.decreases-copied_list
decreases-copied_list l = 2 * depth_of_values (values_of l.items.now)

abbrev pub invariant-copied_list-loop-value : goal.invariant-copied_list-loop-value
invariant-copied_list-loop-value l = l.copy.items ≡ take l.value-index l.items

abbrev pub invariant-copied_parts-loop-part : goal.invariant-copied_parts-loop-part
invariant-copied_parts-loop-part l = l.copy.items ≡ take l.part-index l.parts
