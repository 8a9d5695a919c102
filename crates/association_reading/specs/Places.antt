-- Where the fields of presentation data values stand in the octets of a unit that carries them (X.226 8.4.2).
use Rattle.std.specs.Prelude.{ℕ, zero, suc, ◌+◌, ◌-◌, ◌||◌, List, [], ◌∷◌, length, drop, map, unwrap_or, nat_eq, nat_le, slice_index, if◌then◌else◌}
use Rattle.std.specs.List.{flat_map, filter}
use Rattle.osi_base.specs.Limits.{most_levels}
use Rattle.asn1_types.specs.Whole.{behind_identifier, behind_whole, is_ended}
use Rattle.ber_spelling.specs.Reading.{Spot}
use Rattle.presentation_pdus.specs.declared.place.PpduPlace.{PpduPlace}
use Rattle.presentation_pdus.specs.declared.place.PpduPlace.TheVariants as place

-- ---- one value in octets (X.690 8.1)

abbrev pub spot_at : ℕ → List ℕ → Spot
spot_at at octets = record { place = at; rest = octets }

-- further on, where this is left of the octets
abbrev pub on_to : List ℕ → Spot → Spot
on_to rest spot = record { place = spot.place + (length spot.rest - length rest); rest = rest }

-- behind a length: one octet, which tells in the long form how many octets the number has
abbrev pub behind_size : List ℕ → List ℕ
behind_size [] = []
behind_size (first ∷ rest) = if nat_le first 128 then rest else drop (first - 128) rest

-- where the contents of the value begin
abbrev pub contents_of : Spot → Spot
contents_of spot = on_to (behind_size (unwrap_or (behind_identifier spot.rest) [])) spot

-- behind the whole value
abbrev pub behind_value : Spot → Spot
behind_value spot = on_to (unwrap_or (behind_whole most_levels spot.rest) []) spot

-- the values that stand one after the other, up to the end-of-contents or until so many octets are left
abbrev pub values_until : ℕ → ℕ → Spot → List Spot
values_until zero left spot = []
values_until (suc turns) left spot =
    if is_ended spot.rest || nat_le (length spot.rest) left then [] else spot ∷ values_until turns left (behind_value spot)

-- the values in the contents of a constructed one
abbrev pub values_in : Spot → List Spot
values_in spot = values_until (length spot.rest) (length (behind_value spot).rest) (contents_of spot)

-- those that begin with this octet
abbrev pub beginning_with : ℕ → List Spot → List Spot
beginning_with first spots = filter (λ (s : Spot). nat_eq (slice_index s.rest 0) first) spots

-- ---- presentation data values

-- user data, [APPLICATION 1]: the unit itself, a field of it, or a field of the fields [2] of CP and CPA
abbrev pub user_data : PpduPlace → Spot → List Spot
user_data place.Cn unit = flat_map (λ (s : Spot). beginning_with 97 (values_in s)) (beginning_with 162 (values_in unit))
user_data place.Ac unit = flat_map (λ (s : Spot). beginning_with 97 (values_in s)) (beginning_with 162 (values_in unit))
user_data place.Rf unit = beginning_with 97 (values_in unit)
user_data place.Ab unit = beginning_with 97 (values_in unit)
user_data _ unit = beginning_with 97 (unit ∷ [])

-- of one value: the contents of the transfer syntax name and of the identifier, and the form with its identifier
pub record PdvPlaces : Type 0 where
  pub name : ℕ
  pub identifier : ℕ
  pub form : ℕ

abbrev pub first_contents : List Spot → ℕ
first_contents [] = 0
first_contents (spot ∷ more) = (contents_of spot).place

abbrev pub last_start : List Spot → ℕ
last_start [] = 0
last_start (spot ∷ []) = spot.place
last_start (spot ∷ next ∷ more) = last_start (next ∷ more)

-- the fields are an OBJECT IDENTIFIER, which may lack, an INTEGER and the form
abbrev pub places_in : List Spot → PdvPlaces
places_in fields =
    record { name = first_contents (beginning_with 6 fields); identifier = first_contents (beginning_with 2 fields); form = last_start fields }

abbrev pub places_of : Spot → PdvPlaces
places_of pdv = places_in (values_in pdv)

-- the values of a unit that begins at this place of its TSDU
abbrev pub pdv_places : PpduPlace → ℕ → List ℕ → List PdvPlaces
pdv_places carrier start octets = map places_of (flat_map values_in (user_data carrier (spot_at start octets)))
