-- The keys along links.
use Rattle.std.specs.Prelude.{ℕ, zero, suc, List, [], ◌∷◌, ◌++◌, Option, Some, None, if◌then◌else◌}
use Rattle.slab.specs.Slab.{get}
use Rattle.linked_ops.specs.declared.key.Key.{Key}
use Rattle.linked_ops.specs.declared.node.Node.{Node}
use Rattle.linked_ops.specs.declared.node.Opening.{Opening}
use Rattle.linked_ops.specs.declared.children.Children.{Children}
use Rattle.linked_ops.specs.Entries.{is_root}
use Rattle.linked_ops.specs.Rows.{Row, key_with}
use Rattle.linked_ops.specs.Links.{Nodes, first_child_at, first_child_of}

-- the node at a place, if there is one
abbrev pub reached : Nodes → Option ℕ → Option Node
reached nodes None = None
reached nodes (Some place) = nodes place

abbrev pub next_of : Option Node → Option ℕ
next_of None = None
next_of (Some n) = n.next

abbrev pub key_before : Option Node → List Key → List Key
key_before None keys = []
key_before (Some n) keys = n.key ∷ keys

-- the keys from a place on, at most so many
abbrev pub keys_along : Nodes → ℕ → Option ℕ → List Key
keys_along nodes zero at = []
keys_along nodes (suc left) at = key_before (reached nodes at) (keys_along nodes left (next_of (reached nodes at)))

-- the children that are still to come
abbrev pub children_left : Children → List Key
children_left c = keys_along (get c.nodes.now) c.left c.at

-- ---- each key behind those under it

abbrev pub tree_before : Option Node → List Key → List Key → List Key
tree_before None under later = []
tree_before (Some n) under later = under ++ (n.key ∷ later)

-- the keys of the node at a place and of what follows it, each behind those under it, at most so many in a row
unfoldable pub trees_along : Nodes → ℕ → Option ℕ → List Key
trees_along nodes zero at = []
trees_along nodes (suc left) at = tree_before (reached nodes at) (trees_along nodes left (first_child_at (reached nodes at))) (trees_along nodes left (next_of (reached nodes at)))

-- the tree of a root, and of another key nothing
abbrev pub root_keys : Nodes → List Row → ℕ → Opening → List Key
root_keys nodes rows left o =
    if is_root (key_with o.parent rows) then trees_along nodes left (first_child_of nodes (Some o.place)) ++ (o.key ∷ []) else []

abbrev pub roots_keys : Nodes → List Row → ℕ → List Opening → List Key
roots_keys nodes rows left [] = []
roots_keys nodes rows left (o ∷ os) = root_keys nodes rows left o ++ roots_keys nodes rows left os
