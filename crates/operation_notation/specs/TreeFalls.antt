-- Each type inside a type is less deep than it.
use Rattle.std.specs.Prelude.{◌≤◌, max, List, [], ◌∷◌}
use Rattle.std.proofs.Common.{arith}
use Rattle.operation_notation.specs.Tree.{depth_of_plain, depth_of_parts}
use Rattle.operation_notation.specs.TreeView.{parts_of, plain_of}
use Rattle.operation_notation.specs.declared.module.PartText.{PartText}
use Rattle.operation_notation.specs.declared.module.PlainText.{PlainText}
use Rattle.operation_notation.specs.declared.module.PlainText.TheVariants as plain
use Rattle.operation_notation.specs.declared.module.TypeText.TheDeep.{deep-PlainText, deep-PartText}
use denote.Param.Weighed.{most, w_this}

parts_fall : (ps : List PartText) → most (w_this.weight PartText deep-PartText) ps ≤ depth_of_parts (parts_of ps)
parts_fall [] = omega arith
parts_fall (p ∷ ps) = omega (arith, parts_fall ps)

pub falls : (p : PlainText) → max (deep-PlainText p) 0 ≤ depth_of_plain (plain_of p)
falls plain.Boolean = omega arith
falls plain.Null = omega arith
falls (plain.Integer range) = omega arith
falls (plain.Enumerated items) = omega arith
falls (plain.Octets range) = omega arith
falls plain.Bits = omega arith
falls plain.ObjectId = omega arith
falls (plain.Text kind) = omega arith
falls (plain.SequenceOf item) = omega arith
falls (plain.SetOf item) = omega arith
falls (plain.Sequence ps) = omega (arith, parts_fall ps.items)
falls (plain.Set ps) = omega (arith, parts_fall ps.items)
falls (plain.Choice ps) = omega (arith, parts_fall ps.items)
falls (plain.Named name) = omega arith
