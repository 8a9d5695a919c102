-- Defined context sets, by rising identifier (X.216 3.4, X.226 6.2, 6.3).
use Rattle.std.specs.Prelude.{ℕ, ◌<◌, nat_eq, nat_lt, if◌then◌else◌, List, [], ◌∷◌}
use Rattle.osi_base.specs.declared.layer_words.SetItem.{SetItem}

abbrev pub ContextSet : Type 0
ContextSet = List SetItem

-- all identifiers of the set lie above this one
abbrev pub AllAbove : ℕ → ContextSet → Type 0
AllAbove id [] = Unit {0}
AllAbove id (item ∷ items) = (id < item.id) × AllAbove id items

abbrev pub IsRising : ContextSet → Type 0
IsRising [] = Unit {0}
IsRising (item ∷ items) = AllAbove item.id items × IsRising items

-- the set with this context in it, in the place of one with its identifier
abbrev pub put : SetItem → ContextSet → ContextSet
put new [] = new ∷ []
put new (item ∷ items) =
    if nat_lt new.id item.id then new ∷ item ∷ items
    else if nat_eq new.id item.id then new ∷ items
    else item ∷ put new items
