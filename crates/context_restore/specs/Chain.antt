-- Nodes that are linked by index, from the newest to the root. No public clause cites this module.
use Rattle.std.specs.Prelude.{◌≡◌, ℕ, zero, suc, ◌+◌, ◌<◌, ◌≤◌, Bool, true, false, ◌&&◌, nat_eq, nat_lt, if◌then◌else◌, List, [], ◌∷◌, length, Option, Some, None}
use Rattle.slab.specs.Slab.{Slab, get, slab_len}
use Rattle.osi_base.specs.declared.layer_words.SetItem.{SetItem}
use Rattle.osi_base.specs.Limits.{most_marks}
use Rattle.context_sets.specs.Sets.{ContextSet, IsRising}
use Rattle.context_sets.specs.Alterations.{is_among}
use Rattle.context_restore.specs.declared.node.VersionNode.{VersionNode}
use Rattle.context_restore.specs.Versions.{Version, same_pair, ids, version, applied, set_of}

-- ---- two rising sets side by side

-- the contexts of a rising set from this identifier on
abbrev pub from_id : ℕ → ContextSet → ContextSet
from_id id [] = []
from_id id (item ∷ items) = if nat_lt item.id id then from_id id items else item ∷ items

-- the set begins with this very context
abbrev pub begins_with : ContextSet → SetItem → Bool
begins_with [] item = false
begins_with (first ∷ items) item = nat_eq first.id item.id && same_pair first.pair item.pair

-- ---- nodes and links

abbrev pub Nodes : Type 0
Nodes = Slab VersionNode

abbrev pub parent_of : Option VersionNode → Option ℕ
parent_of None = None
parent_of (Some node) = node.parent

abbrev pub version_of : VersionNode → Version
version_of node = record { added = node.added; removed = ids node.lost }

abbrev pub version_at : Option VersionNode → Version
version_at None = record { added = []; removed = [] }
version_at (Some node) = version_of node

-- the version that leads back from the set of a node to that of its parent
abbrev pub back_of : Option VersionNode → Version
back_of None = record { added = []; removed = [] }
back_of (Some node) = record { added = node.lost; removed = ids node.added }

-- the set to which so many links lead back from this one
abbrev pub set_back : Nodes → ℕ → Option ℕ → ContextSet → ContextSet
set_back nodes zero at set = set
set_back nodes (suc count) None set = set
set_back nodes (suc count) (Some key) set = set_back nodes count (parent_of (get nodes key)) (applied (back_of (get nodes key)) set)

-- the keys to which the links lead, of so many nodes
abbrev pub keys_from : Nodes → ℕ → Option ℕ → List ℕ
keys_from nodes zero at = []
keys_from nodes (suc count) None = []
keys_from nodes (suc count) (Some key) = key ∷ keys_from nodes count (parent_of (get nodes key))

abbrev pub versions_at : Nodes → List ℕ → List Version
versions_at nodes [] = []
versions_at nodes (key ∷ keys) = version_at (get nodes key) ∷ versions_at nodes keys

-- the versions of all nodes, the newest first
abbrev pub versions : Nodes → Option ℕ → List Version
versions nodes head = versions_at nodes (keys_from nodes (slab_len nodes) head)

-- the node that begins a chain
abbrev pub root_node : ContextSet → VersionNode
root_node set = record { parent = None; added = set; lost = [] }

-- the links lead through these keys, each once, and end there
abbrev pub IsLinked : Nodes → Option ℕ → List ℕ → Type 0
IsLinked nodes at [] = at ≡ None
IsLinked nodes at (key ∷ keys) =
    record {
      is_first : at ≡ Some key;
      node : VersionNode;
      is_there : get nodes key ≡ Some node;
      is_new : is_among key keys ≡ false;
      others : IsLinked nodes node.parent keys;
    }

-- these nodes are the same
abbrev pub AreSame : Nodes → Nodes → List ℕ → Type 0
AreSame old new [] = Unit {0}
AreSame old new (key ∷ keys) = (get new key ≡ get old key) × AreSame old new keys

-- each of these nodes but the last leads back from its set to that of the next
abbrev pub LeadsBack : Nodes → List ℕ → Type 0
LeadsBack nodes [] = Unit {0}
LeadsBack nodes (key ∷ []) = Unit {0}
LeadsBack nodes (key ∷ next ∷ keys) =
    (back_of (get nodes key) ≡ version (set_of (versions_at nodes (key ∷ next ∷ keys))) (set_of (versions_at nodes (next ∷ keys))))
    × LeadsBack nodes (next ∷ keys)

-- so many nodes were taken out, and these are left, linked from this key on
pub record IsCut (old new : Nodes) (at : Option ℕ) (keys : List ℕ) (count : ℕ) : Type 0 where
  pub linked : IsLinked new at keys
  pub same : AreSame old new keys
  pub len : slab_len new + count ≡ slab_len old

-- all nodes are linked and lead back, at most 65,537, the newest set is theirs, and an activity has a root
pub record IsSoundChain (nodes : Nodes) (head : Option ℕ) (newest : ContextSet) (active : Bool) : Type 0 where
  pub keys : List ℕ
  pub linked : IsLinked nodes head keys
  pub all : length keys ≡ slab_len nodes
  pub few : length keys ≤ most_marks + 1
  pub is_newest : newest ≡ set_of (versions_at nodes keys)
  pub leads_back : LeadsBack nodes keys
  pub rooted : active ≡ true → 0 < length keys

-- the nodes are sound, and the set from before the activity rises
pub record IsKept (nodes : Nodes) (head : Option ℕ) (newest inter : ContextSet) (active : Bool) : Type 0 where
  pub sound : IsSoundChain nodes head newest active
  pub inter_rises : IsRising inter
