-- Each value inside a node is less deep than the node.
use Rattle.std.specs.Prelude.{ℕ, ◌≤◌, max, ◌+◌, List, [], ◌∷◌, Option, Some, None}
use Rattle.std.proofs.Common.{arith}
use Rattle.asn1_types.specs.Value.{Value, depth, depth_of_parts, depth_of_values}
use Rattle.asn1_types.specs.ValueView.{parts_of, values_of, value_of}
use Rattle.asn1_types.specs.declared.value.Node.{Node}
use Rattle.asn1_types.specs.declared.value.Node.TheVariants as node
use Rattle.asn1_types.specs.declared.value.Val.TheDeep.{deep-Node}
use Rattle.asn1_types.specs.declared.value.Val.TheShapes.{weighed-Node-Parts-0-at-1}
use denote.Param.Weighed.{most}

parts_fall : (weight : Option Value → ℕ) → weight None ≤ 0 → ((v : Value) → weight (Some v) ≤ depth v + 1) → (ps : List (Option Value)) → most weight ps ≤ depth_of_parts (parts_of ps)
parts_fall weight n s [] = omega arith
parts_fall weight n s (None ∷ ps) = omega (arith, parts_fall weight n s ps)
parts_fall weight n s (Some v ∷ ps) = omega (arith, parts_fall weight n s ps, s v)

values_fall : (vs : List Value) → most (λ v. depth v + 1) vs ≤ depth_of_values (values_of vs)
values_fall [] = omega arith
values_fall (v ∷ vs) = omega (arith, values_fall vs)

pub falls : (n : Node) → max (deep-Node n) 0 ≤ depth (value_of n)
falls (node.Bool b) = omega arith
falls (node.Int z) = omega arith
falls node.Null = omega arith
falls (node.Octets os) = omega arith
falls (node.Bits os unused) = omega arith
falls (node.ObjectId arcs) = omega arith
falls (node.Text os) = omega arith
falls (node.Parts ps) =
    let weight : Option Value → ℕ = weighed-Node-Parts-0-at-1.weight Value (λ v. depth v + 1) in
    omega (arith, parts_fall weight (omega arith) (λ v. omega arith) ps.items)
falls (node.List vs) = omega (arith, values_fall vs.items)
falls (node.Chosen which v) = omega arith
falls (node.Any os) = omega arith
