-- The tree that a node of the code stands for.
use Rattle.std.specs.Prelude.{List, [], ◌∷◌, Option, Some, None}
use Rattle.asn1_types.specs.Value.{Value, boolean, integer, null, octets, bits, object_id, text, parts, list, chosen, any, MaybeValues, no_parts, absent, present, Values, no_values, value}
use Rattle.asn1_types.specs.declared.row.Part.{Part}
use Rattle.asn1_types.specs.declared.value.Node.{Node}
use Rattle.asn1_types.specs.declared.value.Node.TheVariants as node

abbrev pub parts_of : List (Option Value) → MaybeValues
parts_of [] = no_parts
parts_of (None ∷ ps) = absent (parts_of ps)
parts_of (Some v ∷ ps) = present v (parts_of ps)

abbrev pub values_of : List Value → Values
values_of [] = no_values
values_of (v ∷ vs) = value v (values_of vs)

abbrev pub value_of : Node → Value
value_of (node.Bool b) = boolean b
value_of (node.Int z) = integer z
value_of node.Null = null
value_of (node.Octets os) = octets os
value_of (node.Bits os unused) = bits os unused
value_of (node.ObjectId arcs) = object_id arcs
value_of (node.Text os) = text os
value_of (node.Parts ps) = parts (parts_of ps.items)
value_of (node.List vs) = list (values_of vs.items)
value_of (node.Chosen which v) = chosen which v.value
value_of (node.Any os) = any os

-- a slot for each part, with no value in it
abbrev pub empty_slots : List Part → List (Option Value)
empty_slots [] = []
empty_slots (p ∷ ps) = None ∷ empty_slots ps
