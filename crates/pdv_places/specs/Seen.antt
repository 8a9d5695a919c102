-- Values in octets with their places, as the definitions of reading speak of them.
use Rattle.std.specs.Prelude.{ℕ, zero, suc, Bool, ◌||◌, nat_eq, nat_le, slice_index, List, [], ◌∷◌, length}
use Rattle.osi_base.specs.OctetPlaces.{HasPlaces}
use Rattle.asn1_types.specs.Whole.{is_ended}
use Rattle.ber_spelling.specs.Reading as spots
use Rattle.association_reading.specs.Places as reading
use Rattle.pdv_places.specs.declared.places.PdvPlaces.{PdvPlaces}
use Rattle.pdv_places.specs.declared.places.PdvField.{PdvField}
use Rattle.pdv_places.specs.declared.places.PdvField.TheVariants.{Name, Identifier, Form}
use Rattle.pdv_places.specs.declared.spots.Spot.{Spot}

abbrev pub spot_of : Spot → spots.Spot
spot_of spot = record { place = spot.place; rest = spot.rest.now }

-- the places of all its octets are numbers of 63 bits
abbrev pub HasSmallPlaces : Spot → Type 0
HasSmallPlaces spot = HasPlaces spot.place spot.rest.now

abbrev pub HaveSmallPlaces : List Spot → Type 0
HaveSmallPlaces [] = Unit {0}
HaveSmallPlaces (spot ∷ spots) = HasSmallPlaces spot × HaveSmallPlaces spots

abbrev pub seen_places : PdvPlaces → reading.PdvPlaces
seen_places at = record { name = at.name; identifier = at.identifier; form = at.form }

abbrev pub place_in : PdvField → reading.PdvPlaces → ℕ
place_in Name at = at.name
place_in Identifier at = at.identifier
place_in Form at = at.form

-- the places of the value with this number, counted from 0
abbrev pub places_at : ℕ → List reading.PdvPlaces → reading.PdvPlaces
places_at n [] = record { name = 0; identifier = 0; form = 0 }
places_at zero (at ∷ places) = at
places_at (suc n) (at ∷ places) = places_at n places

-- the value begins with this octet
abbrev pub begins_with : ℕ → spots.Spot → Bool
begins_with first spot = nat_eq (slice_index spot.rest 0) first

-- user data among the values in it
abbrev pub user_data_of : spots.Spot → List spots.Spot
user_data_of spot = reading.beginning_with 97 (reading.values_in spot)

-- the end-of-contents stand here, or so many octets are left
abbrev pub is_done : ℕ → spots.Spot → Bool
is_done left spot = is_ended spot.rest || nat_le (length spot.rest) left
