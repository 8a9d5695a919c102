-- Versions of a set: what each adds to the one before it and what it removes. Lists of them have the newest first.
use Rattle.std.specs.Prelude.{ℕ, Bool, true, false, not, ◌&&◌, nat_lt, if◌then◌else◌, List, [], ◌∷◌, length, map, filter, Option, Some, None}
use Rattle.osi_base.specs.declared.syntax.Pair.{Pair}
use Rattle.osi_base.specs.declared.syntax.Syntax.{Syntax}
use Rattle.osi_base.specs.declared.syntax.Syntax.TheVariants.{Ber, Der, Packed}
use Rattle.osi_base.specs.declared.layer_words.SetItem.{SetItem}
use Rattle.context_sets.specs.Sets.{ContextSet, put}
use Rattle.osi_base.specs.SetPlaces.{pair_of, without_context}
use Rattle.context_sets.specs.Syntaxes.{is_same}

pub record Version : Type 0 where
  pub added : ContextSet
  pub removed : List ℕ

abbrev pub same_syntax : Syntax → Syntax → Bool
same_syntax Ber Ber = true
same_syntax Der Der = true
same_syntax Packed Packed = true
same_syntax a b = false

abbrev pub same_pair : Pair → Pair → Bool
same_pair a b = is_same a.abstract_name b.abstract_name && same_syntax a.transfer b.transfer

abbrev pub is_pair : Option Pair → Pair → Bool
is_pair None pair = false
is_pair (Some other) pair = same_pair other pair

-- the set has this very context: its identifier with its pair
abbrev pub has : ContextSet → SetItem → Bool
has set item = is_pair (pair_of set item.id) item.pair

-- the contexts of a set that the other hasn't, or has with another pair
abbrev pub missing : ContextSet → ContextSet → ContextSet
missing other set = filter (λ item. not (has other item)) set

abbrev pub ids : ContextSet → List ℕ
ids set = map (λ item. item.id) set

-- the version that leads from a set to a later one
abbrev pub version : ContextSet → ContextSet → Version
version old new = record { added = missing old new; removed = ids (missing new old) }

-- the version that begins a chain
abbrev pub root : ContextSet → Version
root set = record { added = set; removed = [] }

abbrev pub without : List ℕ → ContextSet → ContextSet
without [] set = set
without (id ∷ later) set = without later (without_context id set)

abbrev pub with_all : List SetItem → ContextSet → ContextSet
with_all [] set = set
with_all (item ∷ later) set = with_all later (put item set)

-- a set after a version: less what it removes, with what it adds put in
abbrev pub applied : Version → ContextSet → ContextSet
applied version set = with_all version.added (without version.removed set)

-- the set of the newest version
abbrev pub set_of : List Version → ContextSet
set_of [] = []
set_of (version ∷ versions) = applied version (set_of versions)

-- the versions with numbers below n, which are counted from 0
abbrev pub below : ℕ → List Version → List Version
below n [] = []
below n (version ∷ versions) = if nat_lt (length versions) n then version ∷ versions else below n versions
