-- What a set of contexts gives an identifier, and where a context stands in it.
use Rattle.std.specs.Prelude.{ℕ, ◌+◌, nat_eq, nat_lt, if◌then◌else◌, List, [], ◌∷◌, Option, Some, None, Result, Ok, Err, insert, slice_set}
use Rattle.osi_base.specs.declared.syntax.Pair.{Pair}
use Rattle.osi_base.specs.declared.layer_words.SetItem.{SetItem}

-- the pair that a set gives an identifier (X.216 3.3.15)
abbrev pub pair_of : List SetItem → ℕ → Option Pair
pair_of [] id = None
pair_of (item ∷ items) id = if nat_eq item.id id then Some item.pair else pair_of items id

-- the set without this identifier
abbrev pub without_context : ℕ → List SetItem → List SetItem
without_context id [] = []
without_context id (item ∷ items) = if nat_eq item.id id then without_context id items else item ∷ without_context id items

-- so many places on
abbrev pub moved_by : ℕ → Result ℕ ℕ → Result ℕ ℕ
moved_by count (Ok place) = Ok (place + count)
moved_by count (Err place) = Err (place + count)

-- the place of the context with this identifier, or else the place where one would go
abbrev pub place_of : ℕ → List SetItem → Result ℕ ℕ
place_of id [] = Err 0
place_of id (item ∷ items) =
    if nat_lt id item.id then Err 0
    else (if nat_eq id item.id then Ok 0
    else moved_by 1 (place_of id items))

-- the set with a context at its place
abbrev pub put_at : SetItem → Result ℕ ℕ → List SetItem → List SetItem
put_at new (Ok place) items = slice_set items place new
put_at new (Err place) items = insert items place new
