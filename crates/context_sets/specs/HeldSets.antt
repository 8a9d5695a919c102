-- What one end holds: its set, its own alterations that aren't answered, and the room for them.
use Rattle.std.specs.Prelude.{ℕ, ◌+◌, ◌≤◌, Bool, ◌&&◌, not, if◌then◌else◌, List, [], ◌∷◌, length, find, Option, Some, is_some}
use Rattle.std.specs.Option.{option_map}
use Rattle.osi_base.specs.declared.layer_words.SetItem.{SetItem}
use Rattle.osi_base.specs.Limits.{most_alterations, most_contexts}
use Rattle.context_sets.specs.declared.alteration.Alteration.{Alteration}
use Rattle.context_sets.specs.Sets.{ContextSet, IsRising}
use Rattle.osi_base.specs.SetPlaces.{pair_of}
use Rattle.context_sets.specs.Syntaxes.{is_same}
use Rattle.context_sets.specs.Alterations.{additions, is_deleted}

-- the own alterations stand oldest first; room is how many more contexts the set takes without memory
pub record Held : Type 0 where
  pub initiator : Bool
  pub set : ContextSet
  pub own : List Alteration
  pub room : ℕ

-- the set rises, at most four alterations wait, and set and own additions are at most 64 together and have their room
pub record IsSoundHeldSet (set : ContextSet) (own : List Alteration) (room : ℕ) : Type 0 where
  pub rises : IsRising set
  pub few : length own ≤ most_alterations
  pub within : length set + additions own ≤ most_contexts
  pub has_room : additions own ≤ room

-- the room is enough for the own additions
abbrev pub HasRoom : Held → Type 0
HasRoom held = additions held.own ≤ held.room

-- nothing asked
abbrev pub nothing : Alteration
nothing = record { added = []; deleted = [] }

-- the own alteration that is answered next
abbrev pub oldest : List Alteration → Alteration
oldest [] = nothing
oldest (alteration ∷ alterations) = alteration

-- the own alterations that wait behind it
abbrev pub later : List Alteration → List Alteration
later [] = []
later (alteration ∷ alterations) = alterations

-- values may be sent on a context of the set that no own alteration deletes
abbrev pub may_send : ContextSet → List Alteration → ℕ → Bool
may_send set own id = is_some (pair_of set id) && not (is_deleted own id)

-- a context with this abstract syntax that no own alteration deletes
abbrev pub serves : List Alteration → List ℕ → SetItem → Bool
serves own name item = is_same item.pair.abstract_name name && not (is_deleted own item.id)

-- the lowest identifier that may be sent with this abstract syntax
abbrev pub lowest : ContextSet → List Alteration → List ℕ → Option ℕ
lowest set own name = option_map (λ item. item.id) (find (serves own name) set)

-- the identifier on which what belongs to this context travels: itself, else the lowest of the module
abbrev pub carrier : ContextSet → List Alteration → List ℕ → ℕ → Option ℕ
carrier set own module_name id = if may_send set own id then Some id else lowest set own module_name
