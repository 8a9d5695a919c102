-- What stands first, as the definitions of reading speak of it.
use Rattle.std.specs.Prelude.{◌≡◌, ℕ, List, [], ◌∷◌, ◌++◌, map, Option, Some, None}
use Rattle.osi_base.specs.OctetPlaces.{HasPlaces}
use Rattle.spdu_codec.specs.Places.{user_of}
use Rattle.association_words.specs.Seen.{seen_transport}
use Rattle.association_reading.specs.Front as reading
use Rattle.association_intake.specs.declared.front.Front.{Front}
use Rattle.association_intake.specs.declared.front.Front.TheVariants.{Short, OfTransport, OfSession, Faulty}

abbrev pub seen_front : Front → reading.Front
seen_front Short = reading.Short
seen_front (OfTransport unit) = reading.OfTransport (seen_transport unit)
seen_front (OfSession unit start) = reading.OfSession unit start
seen_front (Faulty layer place) = reading.Faulty layer place

abbrev pub seen_fronts : List Front → List reading.Front
seen_fronts fronts = map seen_front fronts

-- user data begin at this place, where there are some, and the places of all their octets are numbers of 63 bits
abbrev pub HasUserPlaces : ℕ → Option (List ℕ) → Type 0
HasUserPlaces start None = Unit {0}
HasUserPlaces start (Some user) = HasPlaces start user

abbrev pub IsPlaced : Front → Type 0
IsPlaced Short = Unit {0}
IsPlaced (OfTransport unit) = Unit {0}
IsPlaced (OfSession unit start) = HasUserPlaces start (user_of unit)
IsPlaced (Faulty layer place) = Unit {0}

abbrev pub ArePlaced : List Front → Type 0
ArePlaced [] = Unit {0}
ArePlaced (front ∷ fronts) = IsPlaced front × ArePlaced fronts

-- these were put behind the others, and the user data of all have places
pub record IsPut (old new : List Front) (more : List reading.Front) : Type 0 where
  pub placed : ArePlaced new
  pub is : seen_fronts new ≡ seen_fronts old ++ more

-- the first of what came was taken off
abbrev pub TakesFirst : Option reading.Intake → Front → Option reading.Intake → Type 0
TakesFirst None front new = new ≡ None
TakesFirst (Some old) front new = (seen_front front ≡ reading.first_in old) × (new ≡ Some (reading.behind_first old))
