-- The tree that a type of the code stands for.
use Rattle.std.specs.Prelude.{List, [], ◌∷◌}
use Rattle.operation_notation.specs.Tree.{TypeTree, type_tree, PlainTree, boolean, null, integer, enumerated, octets, bits, object_id, text, sequence_of, set_of, sequence, set, choice, named, PartTrees, no_parts, part}
use Rattle.operation_notation.specs.declared.module.PlainText.{PlainText}
use Rattle.operation_notation.specs.declared.module.PlainText.TheVariants as plain
use Rattle.operation_notation.specs.declared.module.PartText.{PartText}
use Rattle.operation_notation.specs.declared.module.TypeText.TheInside.{Inside}

abbrev pub parts_of : List PartText → PartTrees
parts_of [] = no_parts
parts_of (p ∷ ps) = part p.name p.of p.optional p.dflt (parts_of ps)

abbrev pub plain_of : PlainText → PlainTree
plain_of plain.Boolean = boolean
plain_of plain.Null = null
plain_of (plain.Integer range) = integer range
plain_of (plain.Enumerated found) = enumerated found.items
plain_of (plain.Octets range) = octets range
plain_of plain.Bits = bits
plain_of plain.ObjectId = object_id
plain_of (plain.Text kind) = text kind
plain_of (plain.SequenceOf item) = sequence_of item.value
plain_of (plain.SetOf item) = set_of item.value
plain_of (plain.Sequence ps) = sequence (parts_of ps.items)
plain_of (plain.Set ps) = set (parts_of ps.items)
plain_of (plain.Choice ps) = choice (parts_of ps.items)
plain_of (plain.Named name) = named name

abbrev pub type_of : Inside → TypeTree
type_of t = type_tree t.line t.column t.tag (plain_of t.plain)
