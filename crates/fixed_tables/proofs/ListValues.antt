-- Lists and values of SEQUENCE OF stand for each other.
use Rattle.std.proofs.Common.{◌≡◌, List, [], ◌∷◌, refl, ap}
use Rattle.asn1_types.specs.Value.{Value}
use Rattle.asn1_types.specs.ValueView.{values_of}
use Rattle.fixed_tables.specs.Values.{values_list}

pub values_back : (vs : List Value) → values_list (values_of vs) ≡ vs
values_back [] = refl
values_back (v ∷ vs) = ap (λ (x : List Value). v ∷ x) (values_back vs)
