-- Two lists of values merged.
use Rattle.std.specs.Prelude.{ℕ, Bool, true, false, List, [], ◌∷◌, if◌then◌else◌}
use Rattle.asn1_types.specs.Value.{Value}
use Rattle.asn1_types.specs.Rising.{is_less}

-- those less than a value, the value, and the others
abbrev pub woven : (Value → List ℕ) → Value → (List Value → List Value) → List Value → List Value
woven spell v next [] = v ∷ next []
woven spell v next (w ∷ ws) = if is_less (spell w) (spell v) then w ∷ woven spell v next ws else v ∷ next (w ∷ ws)

abbrev pub merged : (Value → List ℕ) → List Value → List Value → List Value
merged spell [] ws = ws
merged spell (v ∷ vs) ws = woven spell v (merged spell vs) ws

-- the second list has the next value
abbrev pub first_less : (Value → List ℕ) → List Value → List Value → Bool
first_less spell [] ws = true
first_less spell (v ∷ vs) [] = false
first_less spell (v ∷ vs) (w ∷ ws) = is_less (spell w) (spell v)
