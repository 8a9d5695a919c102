-- The one value of association control.
use Rattle.std.proofs.Common.{◌≡◌, List, [], ◌∷◌, refl}
use Rattle.end_rules.specs.Connecting.{the_one}
use Rattle.association_words.specs.declared.values.Value.{Value}
use Rattle.association_words.specs.Seen.{seen_values}
use Rattle.association_connecting.specs.Associated.{only_one, associated_one}

pub the_one_is : (values : List Value) → the_one (seen_values values) ≡ associated_one (only_one values)
the_one_is [] = refl
the_one_is (value ∷ []) = refl
the_one_is (value ∷ more ∷ values) = refl
