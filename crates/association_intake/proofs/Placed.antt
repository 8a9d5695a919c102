-- User data begin where their octets have places.
use Rattle.std.proofs.Common.{◌≡◌, ℕ, ◌<◌, ◌^◌, List, [], ◌∷◌, ◌++◌, length, Option, Some, None, sym, subst, arith}
use Rattle.std.proofs.lemmas.List.{map-append}
use Rattle.spdu_codec.specs.Places.{StandsAt}
use Rattle.association_reading.specs.Front.{start_of}
use Rattle.association_intake.specs.declared.front.Front.{Front}
use Rattle.association_intake.specs.Seen.{seen_front, HasUserPlaces, IsPlaced, ArePlaced, IsPut}

pub placed_on : (fronts : List Front) (front : Front) → ArePlaced fronts → IsPlaced front → ArePlaced (fronts ++ front ∷ [])
placed_on [] front are is = (is, tt)
placed_on (f ∷ fronts) front are is = (are.0, placed_on fronts front are.1 is)

pub stands_placed : (user : Option (List ℕ)) (octets : List ℕ) (at : Option ℕ) → length octets < 2 ^ 63 → StandsAt user octets at → HasUserPlaces (start_of at) user
stands_placed None octets None few stands = tt
stands_placed None octets (Some at) few stands = absurd stands
stands_placed (Some user) octets None few stands = absurd stands
stands_placed (Some user) octets (Some at) few stands = omega (arith, stands.0, few)

-- one more front is put behind the others
pub put_behind : (old new : List Front) (front : Front) → ArePlaced old → IsPlaced front → new ≡ old ++ front ∷ [] → IsPut old new (seen_front front ∷ [])
put_behind old new front are is e =
    subst (λ (fronts : List Front). IsPut old fronts (seen_front front ∷ [])) (sym e)
    (record { placed = placed_on old front are is; is = map-append seen_front old (front ∷ []) })
