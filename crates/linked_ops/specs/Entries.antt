-- A forest as the list of its keys, each with the key above it, in order of opening.
use Rattle.std.specs.Prelude.{◌≡◌, Bool, true, false, List, [], ◌∷◌, ◌++◌, map, Option, Some, None, if◌then◌else◌}
use Rattle.std.specs.List.{list_any}
use Rattle.linked_ops.specs.declared.key.Key.{Key}
use Rattle.linked_ops.specs.Keys.{same_key, is_under}

abbrev pub Entry : Type 0
Entry = Key × Option Key

abbrev pub is_open : Key → List Entry → Bool
is_open key entries = list_any (λ (e : Entry). same_key e.0 key) entries

-- the key above this one; none for a root, and for a key that isn't open
abbrev pub parent_of : Key → List Entry → Option Key
parent_of key [] = None
parent_of key (e ∷ es) = if same_key e.0 key then e.1 else parent_of key es

-- the keys right under this one, in order of opening
abbrev pub children_of : Key → List Entry → List Key
children_of key [] = []
children_of key (e ∷ es) = if is_under key e.1 then e.0 ∷ children_of key es else children_of key es

-- the key is gone, and its children are roots
abbrev pub orphaned : Key → Entry → Entry
orphaned key e = (e.0, (if is_under key e.1 then None else e.1))

abbrev pub without : Key → List Entry → List Entry
without key [] = []
without key (e ∷ es) = if same_key e.0 key then es else e ∷ without key es

abbrev pub closed : Key → List Entry → List Entry
closed key entries = map (orphaned key) (without key entries)

-- The keys under this one, at any depth, each behind those under it, and the children of one key in order of opening.
-- As a key stands behind the one above it, what is under it is found in the list behind it.
abbrev pub under : Key → List Entry → List Key
under key [] = []
under key (e ∷ es) = if is_under key e.1 then under e.0 es ++ (e.0 ∷ under key es) else under key es

abbrev pub is_root : Option Key → Bool
is_root None = true
is_root (Some above) = false

-- the trees of the roots, in order of opening
abbrev pub post_order_of : List Entry → List Key
post_order_of [] = []
post_order_of (e ∷ es) = if is_root e.1 then under e.0 es ++ (e.0 ∷ post_order_of es) else post_order_of es

abbrev pub is_open_or_none : Option Key → List Entry → Bool
is_open_or_none None entries = true
is_open_or_none (Some key) entries = is_open key entries

-- the first child of a key among entries, and what is behind it
abbrev pub IsFirst : Key → List Entry → Option Key → List Entry → Type 0
IsFirst key entries None rest = (children_of key entries ≡ []) × (children_of key rest ≡ [])
IsFirst key entries (Some child) rest = children_of key entries ≡ child ∷ children_of key rest

-- behind these entries: keys are distinct, and each stands behind the one above it
abbrev pub AreBehind : List Entry → List Entry → Type 0
AreBehind front [] = Unit {0}
AreBehind front (e ∷ es) = (is_open e.0 front ≡ false) × (is_open_or_none e.1 front ≡ true) × AreBehind (front ++ e ∷ []) es

abbrev pub IsForest : List Entry → Type 0
IsForest entries = AreBehind [] entries
