-- Lists of parts.
use Rattle.std.proofs.Common.{◌≡◌, List, [], ◌∷◌, Option, Some, None, refl, ap}
use Rattle.asn1_types.specs.Value.{Value, MaybeValues, no_parts, absent, present}
use Rattle.asn1_types.specs.ValueView.{parts_of}
use Rattle.apdu_codec.specs.Pieces.{pieces_of}

pub pieces_back : (xs : List (Option Value)) → pieces_of (parts_of xs) ≡ xs
pieces_back [] = refl
pieces_back (None ∷ xs) = ap (λ (x : List (Option Value)). None ∷ x) (pieces_back xs)
pieces_back (Some v ∷ xs) = ap (λ (x : List (Option Value)). Some v ∷ x) (pieces_back xs)

pub parts_back : (vs : MaybeValues) → parts_of (pieces_of vs) ≡ vs
parts_back no_parts = refl
parts_back (absent vs) = ap absent (parts_back vs)
parts_back (present v vs) = ap (present v) (parts_back vs)
