-- What changes in a slab as a node is linked or taken out.
use Rattle.std.specs.Prelude.{ℕ, Bool, false, Option, Some, None, nat_eq, if◌then◌else◌}
use Rattle.std.specs.Option.{option_map}
use Rattle.linked_ops.specs.declared.key.Key.{Key}
use Rattle.linked_ops.specs.declared.node.Node.{Node}

-- the node at each place
abbrev pub Nodes : Type 0
Nodes = ℕ → Option Node

abbrev pub is_place : ℕ → Option ℕ → Bool
is_place p None = false
is_place p (Some q) = nat_eq p q

abbrev pub with_next : Option ℕ → Node → Node
with_next next n = record n { next = next }

abbrev pub with_previous : Option ℕ → Node → Node
with_previous previous n = record n { previous = previous }

abbrev pub or_place : Option ℕ → Option ℕ → Option ℕ
or_place None later = later
or_place (Some p) later = Some p

abbrev pub with_child : ℕ → Node → Node
with_child child n = record n { first_child = or_place n.first_child (Some child); last_child = Some child }

-- what stands where there was nothing on that side
abbrev pub moved : Option ℕ → Option ℕ → Option ℕ → Option ℕ
moved None to from = to
moved (Some p) to from = from

abbrev pub without_child : Node → Node → Node
without_child child n = record n { first_child = moved child.previous child.next n.first_child; last_child = moved child.next child.previous n.last_child }

abbrev pub last_child_at : Option Node → Option ℕ
last_child_at None = None
last_child_at (Some n) = n.last_child

abbrev pub last_child_of : Nodes → Option ℕ → Option ℕ
last_child_of nodes None = None
last_child_of nodes (Some p) = last_child_at (nodes p)

abbrev pub first_child_at : Option Node → Option ℕ
first_child_at None = None
first_child_at (Some n) = n.first_child

abbrev pub first_child_of : Nodes → Option ℕ → Option ℕ
first_child_of nodes None = None
first_child_of nodes (Some p) = first_child_at (nodes p)

-- a change at one place
abbrev pub changed : Option ℕ → (Node → Node) → Nodes → Nodes
changed at change nodes p = if is_place p at then option_map change (nodes p) else nodes p

abbrev pub put_node : ℕ → Option Node → Nodes → Nodes
put_node place node nodes p = if nat_eq p place then node else nodes p

-- the nodes with one more, behind the other children of a node
abbrev pub linked_in : Nodes → ℕ → Key → Option ℕ → Nodes
linked_in nodes place key parent =
    changed parent (with_child place)
    (changed (last_child_of nodes parent) (with_next (Some place))
    (put_node place (Some (record { key = key; previous = last_child_of nodes parent; next = None; first_child = None; last_child = None })) nodes))

abbrev pub taken_out : Option Node → ℕ → Option ℕ → Nodes → Nodes
taken_out None place parent nodes = nodes
taken_out (Some n) place parent nodes =
    changed parent (without_child n) (changed n.next (with_previous n.previous) (changed n.previous (with_next n.next) (put_node place None nodes)))

-- the nodes without one
abbrev pub unlinked_in : Nodes → ℕ → Option ℕ → Nodes
unlinked_in nodes place parent = taken_out (nodes place) place parent nodes
