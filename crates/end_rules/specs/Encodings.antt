-- Items as an end starts and encodes them for its transfers (X.228 7; the numbers of activities are this project's own rule).
use Rattle.std.specs.Prelude.{◌≡◌, ℕ, suc, List, [], ◌∷◌, length, nat_eq, Option, Some, None, if◌then◌else◌}
use Rattle.osi_base.specs.declared.syntax.Pair.{Pair}
use Rattle.stub_tables.specs.declared.apdu.Apdu.{Apdu}
use Rattle.end_rules.specs.State.{Queued, Transfer}

-- the first of a queue, where there is one
abbrev pub next_queued : List Queued → List Queued
next_queued [] = []
next_queued (item ∷ items) = item ∷ []

-- the k-th item that was started, of a list with the newest first
abbrev pub item_of : ℕ → List Queued → Option Queued
item_of k [] = None
item_of k (item ∷ items) = if nat_eq k (suc (length items)) then Some item else item_of k items

-- there is an item, and this is its APDU
abbrev pub IsOf : Apdu → Option Queued → Type 0
IsOf apdu None = ⊥
IsOf apdu (Some item) = item.apdu ≡ apdu

-- an item as it was encoded: its activity, its context, the pair that the shared set gave the context just then, its APDU
pub record Encoding : Type 0 where
  pub activity : ℕ
  pub id : ℕ
  pub pair : Option Pair
  pub apdu : Apdu

-- what is encoded in an activity, on a context with this pair, where a transfer is under way
abbrev pub encoding_of : ℕ → ℕ → Option Pair → Option Transfer → List Encoding
encoding_of activity context pair None = []
encoding_of activity context pair (Some transfer) =
    record { activity = activity; id = context; pair = pair; apdu = transfer.item.apdu } ∷ []

-- what was encoded last
abbrev pub IsNewest : Encoding → List Encoding → Type 0
IsNewest encoding [] = ⊥
IsNewest encoding (first ∷ rest) = first ≡ encoding
